-- What a store holds of a tag is what it holds in the tag's row, for each tag that the analysis reads.
-- Assumes nothing.
use mathlib.Core.List.{List}
use mathlib.Core.Path.{◌≡◌}
use Prim.Native.Nat.{ℕ}
use Rattle.dictionary.specs.Rows.{dictionary_rows}
use Rattle.dictionary.specs.Named.{row_expiration_date, row_effective_date, row_issuer_country}
use Rattle.dictionary.specs.Named.{row_transaction_currency, row_aip, row_cvm_list, row_transaction_date}
use Rattle.dictionary.specs.Named.{row_transaction_type, row_amount, row_amount_other, row_auc, row_card_version}
use Rattle.dictionary.specs.Named.{row_reader_version, row_iac_default, row_iac_denial, row_iac_online}
use Rattle.dictionary.specs.Named.{row_terminal_country, row_terminal_capabilities, row_terminal_type}
use Rattle.dictionary.specs.Named.{row_additional_capabilities, row_application_currency, row_kernel_configuration}
use Rattle.dictionary.specs.Named.{row_tac_default, row_tac_denial, row_tac_online, row_floor_limit}
use Rattle.dictionary.specs.Named.{row_limit_no_on_device_cvm, row_limit_on_device_cvm, row_cvm_required_limit}
use Rattle.dictionary.proofs.Named.{at_5f24, at_5f25, at_5f28, at_5f2a, at_82, at_8e, at_9a, at_9c, at_9f02, at_9f03}
use Rattle.dictionary.proofs.Named.{at_9f07, at_9f08, at_9f09, at_9f0d, at_9f0e, at_9f0f, at_9f1a, at_9f33, at_9f35}
use Rattle.dictionary.proofs.Named.{at_9f40, at_9f42, at_df811b, at_df8120, at_df8121, at_df8122, at_df8123}
use Rattle.dictionary.proofs.Named.{at_df8124, at_df8125, at_df8126}
use Rattle.store.specs.Place.{row_value, object_value}
use Rattle.store.proofs.Laws.{by_row}

module _ (b : List ℕ) where
  pub row_of_5f24 : object_value b 0x5F24 ≡ row_value dictionary_rows b row_expiration_date
  row_of_5f24 = by_row _ _ _ _ at_5f24

  pub row_of_5f25 : object_value b 0x5F25 ≡ row_value dictionary_rows b row_effective_date
  row_of_5f25 = by_row _ _ _ _ at_5f25

  pub row_of_5f28 : object_value b 0x5F28 ≡ row_value dictionary_rows b row_issuer_country
  row_of_5f28 = by_row _ _ _ _ at_5f28

  pub row_of_5f2a : object_value b 0x5F2A ≡ row_value dictionary_rows b row_transaction_currency
  row_of_5f2a = by_row _ _ _ _ at_5f2a

  pub row_of_82 : object_value b 0x82 ≡ row_value dictionary_rows b row_aip
  row_of_82 = by_row _ _ _ _ at_82

  pub row_of_8e : object_value b 0x8E ≡ row_value dictionary_rows b row_cvm_list
  row_of_8e = by_row _ _ _ _ at_8e

  pub row_of_9a : object_value b 0x9A ≡ row_value dictionary_rows b row_transaction_date
  row_of_9a = by_row _ _ _ _ at_9a

  pub row_of_9c : object_value b 0x9C ≡ row_value dictionary_rows b row_transaction_type
  row_of_9c = by_row _ _ _ _ at_9c

  pub row_of_9f02 : object_value b 0x9F02 ≡ row_value dictionary_rows b row_amount
  row_of_9f02 = by_row _ _ _ _ at_9f02

  pub row_of_9f03 : object_value b 0x9F03 ≡ row_value dictionary_rows b row_amount_other
  row_of_9f03 = by_row _ _ _ _ at_9f03

  pub row_of_9f07 : object_value b 0x9F07 ≡ row_value dictionary_rows b row_auc
  row_of_9f07 = by_row _ _ _ _ at_9f07

  pub row_of_9f08 : object_value b 0x9F08 ≡ row_value dictionary_rows b row_card_version
  row_of_9f08 = by_row _ _ _ _ at_9f08

  pub row_of_9f09 : object_value b 0x9F09 ≡ row_value dictionary_rows b row_reader_version
  row_of_9f09 = by_row _ _ _ _ at_9f09

  pub row_of_9f0d : object_value b 0x9F0D ≡ row_value dictionary_rows b row_iac_default
  row_of_9f0d = by_row _ _ _ _ at_9f0d

  pub row_of_9f0e : object_value b 0x9F0E ≡ row_value dictionary_rows b row_iac_denial
  row_of_9f0e = by_row _ _ _ _ at_9f0e

  pub row_of_9f0f : object_value b 0x9F0F ≡ row_value dictionary_rows b row_iac_online
  row_of_9f0f = by_row _ _ _ _ at_9f0f

  pub row_of_9f1a : object_value b 0x9F1A ≡ row_value dictionary_rows b row_terminal_country
  row_of_9f1a = by_row _ _ _ _ at_9f1a

  pub row_of_9f33 : object_value b 0x9F33 ≡ row_value dictionary_rows b row_terminal_capabilities
  row_of_9f33 = by_row _ _ _ _ at_9f33

  pub row_of_9f35 : object_value b 0x9F35 ≡ row_value dictionary_rows b row_terminal_type
  row_of_9f35 = by_row _ _ _ _ at_9f35

  pub row_of_9f40 : object_value b 0x9F40 ≡ row_value dictionary_rows b row_additional_capabilities
  row_of_9f40 = by_row _ _ _ _ at_9f40

  pub row_of_9f42 : object_value b 0x9F42 ≡ row_value dictionary_rows b row_application_currency
  row_of_9f42 = by_row _ _ _ _ at_9f42

  pub row_of_df811b : object_value b 0xDF811B ≡ row_value dictionary_rows b row_kernel_configuration
  row_of_df811b = by_row _ _ _ _ at_df811b

  pub row_of_df8120 : object_value b 0xDF8120 ≡ row_value dictionary_rows b row_tac_default
  row_of_df8120 = by_row _ _ _ _ at_df8120

  pub row_of_df8121 : object_value b 0xDF8121 ≡ row_value dictionary_rows b row_tac_denial
  row_of_df8121 = by_row _ _ _ _ at_df8121

  pub row_of_df8122 : object_value b 0xDF8122 ≡ row_value dictionary_rows b row_tac_online
  row_of_df8122 = by_row _ _ _ _ at_df8122

  pub row_of_df8123 : object_value b 0xDF8123 ≡ row_value dictionary_rows b row_floor_limit
  row_of_df8123 = by_row _ _ _ _ at_df8123

  pub row_of_df8124 : object_value b 0xDF8124 ≡ row_value dictionary_rows b row_limit_no_on_device_cvm
  row_of_df8124 = by_row _ _ _ _ at_df8124

  pub row_of_df8125 : object_value b 0xDF8125 ≡ row_value dictionary_rows b row_limit_on_device_cvm
  row_of_df8125 = by_row _ _ _ _ at_df8125

  pub row_of_df8126 : object_value b 0xDF8126 ≡ row_value dictionary_rows b row_cvm_required_limit
  row_of_df8126 = by_row _ _ _ _ at_df8126

pub ruleset rows = (row_of_5f24, row_of_5f25, row_of_5f28, row_of_5f2a, row_of_82, row_of_8e, row_of_9a, row_of_9c, row_of_9f02, row_of_9f03, row_of_9f07, row_of_9f08, row_of_9f09, row_of_9f0d, row_of_9f0e, row_of_9f0f, row_of_9f1a, row_of_9f33, row_of_9f35, row_of_9f40, row_of_9f42, row_of_df811b, row_of_df8120, row_of_df8121, row_of_df8122, row_of_df8123, row_of_df8124, row_of_df8125, row_of_df8126)
