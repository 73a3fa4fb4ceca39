-- Written by bin/dictionary from dictionary.tsv: change that table, and run it again.
-- The rows of the tags that code uses, found in the table: each computed. Assumes nothing.
use Rattle.std.specs.Prelude.{Some}
use mathlib.Core.Path.{◌≡◌, refl}
use Rattle.basics.specs.Choice.{if}
use Rattle.dictionary.specs.Rows.{dictionary_rows, row_found_shifted, find_row}
use Rattle.dictionary.specs.Named.{row_pan, row_aip, row_cdol1, row_cvm_list, row_afl, row_tvr, row_transaction_date}
use Rattle.dictionary.specs.Named.{row_transaction_type, row_expiration_date, row_effective_date, row_issuer_country}
use Rattle.dictionary.specs.Named.{row_transaction_currency, row_amount, row_amount_other, row_auc, row_card_version}
use Rattle.dictionary.specs.Named.{row_reader_version, row_iac_default, row_iac_denial, row_iac_online, row_iad}
use Rattle.dictionary.specs.Named.{row_terminal_country, row_ac, row_cid, row_terminal_capabilities, row_cvm_results}
use Rattle.dictionary.specs.Named.{row_terminal_type, row_atc, row_un, row_pdol, row_additional_capabilities}
use Rattle.dictionary.specs.Named.{row_application_currency, row_cvc3_track2, row_pcvc3_track2, row_punatc_track2}
use Rattle.dictionary.specs.Named.{row_natc_track2, row_udol, row_un_numeric, row_track2_data, row_kernel_configuration}
use Rattle.dictionary.specs.Named.{row_tac_default, row_tac_denial, row_tac_online, row_floor_limit}
use Rattle.dictionary.specs.Named.{row_limit_no_on_device_cvm, row_limit_on_device_cvm, row_cvm_required_limit}

pub at_5a : find_row dictionary_rows 0x5A ≡ Some row_pan
unfolding if dictionary_rows row_found_shifted find_row
at_5a = refl

pub at_82 : find_row dictionary_rows 0x82 ≡ Some row_aip
unfolding if dictionary_rows row_found_shifted find_row
at_82 = refl

pub at_8c : find_row dictionary_rows 0x8C ≡ Some row_cdol1
unfolding if dictionary_rows row_found_shifted find_row
at_8c = refl

pub at_8e : find_row dictionary_rows 0x8E ≡ Some row_cvm_list
unfolding if dictionary_rows row_found_shifted find_row
at_8e = refl

pub at_94 : find_row dictionary_rows 0x94 ≡ Some row_afl
unfolding if dictionary_rows row_found_shifted find_row
at_94 = refl

pub at_95 : find_row dictionary_rows 0x95 ≡ Some row_tvr
unfolding if dictionary_rows row_found_shifted find_row
at_95 = refl

pub at_9a : find_row dictionary_rows 0x9A ≡ Some row_transaction_date
unfolding if dictionary_rows row_found_shifted find_row
at_9a = refl

pub at_9c : find_row dictionary_rows 0x9C ≡ Some row_transaction_type
unfolding if dictionary_rows row_found_shifted find_row
at_9c = refl

pub at_5f24 : find_row dictionary_rows 0x5F24 ≡ Some row_expiration_date
unfolding if dictionary_rows row_found_shifted find_row
at_5f24 = refl

pub at_5f25 : find_row dictionary_rows 0x5F25 ≡ Some row_effective_date
unfolding if dictionary_rows row_found_shifted find_row
at_5f25 = refl

pub at_5f28 : find_row dictionary_rows 0x5F28 ≡ Some row_issuer_country
unfolding if dictionary_rows row_found_shifted find_row
at_5f28 = refl

pub at_5f2a : find_row dictionary_rows 0x5F2A ≡ Some row_transaction_currency
unfolding if dictionary_rows row_found_shifted find_row
at_5f2a = refl

pub at_9f02 : find_row dictionary_rows 0x9F02 ≡ Some row_amount
unfolding if dictionary_rows row_found_shifted find_row
at_9f02 = refl

pub at_9f03 : find_row dictionary_rows 0x9F03 ≡ Some row_amount_other
unfolding if dictionary_rows row_found_shifted find_row
at_9f03 = refl

pub at_9f07 : find_row dictionary_rows 0x9F07 ≡ Some row_auc
unfolding if dictionary_rows row_found_shifted find_row
at_9f07 = refl

pub at_9f08 : find_row dictionary_rows 0x9F08 ≡ Some row_card_version
unfolding if dictionary_rows row_found_shifted find_row
at_9f08 = refl

pub at_9f09 : find_row dictionary_rows 0x9F09 ≡ Some row_reader_version
unfolding if dictionary_rows row_found_shifted find_row
at_9f09 = refl

pub at_9f0d : find_row dictionary_rows 0x9F0D ≡ Some row_iac_default
unfolding if dictionary_rows row_found_shifted find_row
at_9f0d = refl

pub at_9f0e : find_row dictionary_rows 0x9F0E ≡ Some row_iac_denial
unfolding if dictionary_rows row_found_shifted find_row
at_9f0e = refl

pub at_9f0f : find_row dictionary_rows 0x9F0F ≡ Some row_iac_online
unfolding if dictionary_rows row_found_shifted find_row
at_9f0f = refl

pub at_9f10 : find_row dictionary_rows 0x9F10 ≡ Some row_iad
unfolding if dictionary_rows row_found_shifted find_row
at_9f10 = refl

pub at_9f1a : find_row dictionary_rows 0x9F1A ≡ Some row_terminal_country
unfolding if dictionary_rows row_found_shifted find_row
at_9f1a = refl

pub at_9f26 : find_row dictionary_rows 0x9F26 ≡ Some row_ac
unfolding if dictionary_rows row_found_shifted find_row
at_9f26 = refl

pub at_9f27 : find_row dictionary_rows 0x9F27 ≡ Some row_cid
unfolding if dictionary_rows row_found_shifted find_row
at_9f27 = refl

pub at_9f33 : find_row dictionary_rows 0x9F33 ≡ Some row_terminal_capabilities
unfolding if dictionary_rows row_found_shifted find_row
at_9f33 = refl

pub at_9f34 : find_row dictionary_rows 0x9F34 ≡ Some row_cvm_results
unfolding if dictionary_rows row_found_shifted find_row
at_9f34 = refl

pub at_9f35 : find_row dictionary_rows 0x9F35 ≡ Some row_terminal_type
unfolding if dictionary_rows row_found_shifted find_row
at_9f35 = refl

pub at_9f36 : find_row dictionary_rows 0x9F36 ≡ Some row_atc
unfolding if dictionary_rows row_found_shifted find_row
at_9f36 = refl

pub at_9f37 : find_row dictionary_rows 0x9F37 ≡ Some row_un
unfolding if dictionary_rows row_found_shifted find_row
at_9f37 = refl

pub at_9f38 : find_row dictionary_rows 0x9F38 ≡ Some row_pdol
unfolding if dictionary_rows row_found_shifted find_row
at_9f38 = refl

pub at_9f40 : find_row dictionary_rows 0x9F40 ≡ Some row_additional_capabilities
unfolding if dictionary_rows row_found_shifted find_row
at_9f40 = refl

pub at_9f42 : find_row dictionary_rows 0x9F42 ≡ Some row_application_currency
unfolding if dictionary_rows row_found_shifted find_row
at_9f42 = refl

pub at_9f61 : find_row dictionary_rows 0x9F61 ≡ Some row_cvc3_track2
unfolding if dictionary_rows row_found_shifted find_row
at_9f61 = refl

pub at_9f65 : find_row dictionary_rows 0x9F65 ≡ Some row_pcvc3_track2
unfolding if dictionary_rows row_found_shifted find_row
at_9f65 = refl

pub at_9f66 : find_row dictionary_rows 0x9F66 ≡ Some row_punatc_track2
unfolding if dictionary_rows row_found_shifted find_row
at_9f66 = refl

pub at_9f67 : find_row dictionary_rows 0x9F67 ≡ Some row_natc_track2
unfolding if dictionary_rows row_found_shifted find_row
at_9f67 = refl

pub at_9f69 : find_row dictionary_rows 0x9F69 ≡ Some row_udol
unfolding if dictionary_rows row_found_shifted find_row
at_9f69 = refl

pub at_9f6a : find_row dictionary_rows 0x9F6A ≡ Some row_un_numeric
unfolding if dictionary_rows row_found_shifted find_row
at_9f6a = refl

pub at_9f6b : find_row dictionary_rows 0x9F6B ≡ Some row_track2_data
unfolding if dictionary_rows row_found_shifted find_row
at_9f6b = refl

pub at_df811b : find_row dictionary_rows 0xDF811B ≡ Some row_kernel_configuration
unfolding if dictionary_rows row_found_shifted find_row
at_df811b = refl

pub at_df8120 : find_row dictionary_rows 0xDF8120 ≡ Some row_tac_default
unfolding if dictionary_rows row_found_shifted find_row
at_df8120 = refl

pub at_df8121 : find_row dictionary_rows 0xDF8121 ≡ Some row_tac_denial
unfolding if dictionary_rows row_found_shifted find_row
at_df8121 = refl

pub at_df8122 : find_row dictionary_rows 0xDF8122 ≡ Some row_tac_online
unfolding if dictionary_rows row_found_shifted find_row
at_df8122 = refl

pub at_df8123 : find_row dictionary_rows 0xDF8123 ≡ Some row_floor_limit
unfolding if dictionary_rows row_found_shifted find_row
at_df8123 = refl

pub at_df8124 : find_row dictionary_rows 0xDF8124 ≡ Some row_limit_no_on_device_cvm
unfolding if dictionary_rows row_found_shifted find_row
at_df8124 = refl

pub at_df8125 : find_row dictionary_rows 0xDF8125 ≡ Some row_limit_on_device_cvm
unfolding if dictionary_rows row_found_shifted find_row
at_df8125 = refl

pub at_df8126 : find_row dictionary_rows 0xDF8126 ≡ Some row_cvm_required_limit
unfolding if dictionary_rows row_found_shifted find_row
at_df8126 = refl
