-- A row of the dictionary of data objects (document 01, "Dictionary"; document 02, Item 11): its columns, and what each
-- of them may say.
-- Assumes nothing.
use Rattle.std.specs.Prelude.{ℕ, ◌+◌}
use Rattle.basics.specs.Types.{Tag, Length}

-- a row: the tag, the least and greatest length in bytes, the form of the value, and three sets of bits: who may set
-- the object, the templates that may be directly around it, the answers that may bring it; last, whether a start
-- must bring it
pub record Row : Type 0 where
  pub tag : Tag
  pub least : Length
  pub greatest : Length
  pub form : ℕ
  pub setters : ℕ
  pub templates : ℕ
  pub answers : ℕ
  pub must : ℕ

-- a row by its columns
abbrev pub row : Tag → Length → Length → ℕ → ℕ → ℕ → ℕ → ℕ → Row
row tag least greatest form setters templates answers must =
    record {
      tag = tag;
      least = least;
      greatest = greatest;
      form = form;
      setters = setters;
      templates = templates;
      answers = answers;
      must = must;
    }

-- ---- the columns' values

-- forms: b any bytes, n digits, cn digits and then any Fs
abbrev pub form_b : ℕ
form_b = 0

abbrev pub form_n : ℕ
form_n = 1

abbrev pub form_cn : ℕ
form_cn = 2

-- bits of `setters`: who may set an object
abbrev pub set_by_start : ℕ
set_by_start = 1

abbrev pub set_by_card : ℕ
set_by_card = 2

abbrev pub set_by_session : ℕ
set_by_session = 4

abbrev pub set_by_start_or_card : ℕ
set_by_start_or_card = set_by_start + set_by_card

-- bits of `templates`: the one directly around an object; an object of the card that names none is never allowed
abbrev pub in_no_template : ℕ
in_no_template = 0

abbrev pub in_template70 : ℕ
in_template70 = 1

abbrev pub in_template77 : ℕ
in_template77 = 2

abbrev pub in_template_a5 : ℕ
in_template_a5 = 4

abbrev pub in_template_bf0c : ℕ
in_template_bf0c = 8

abbrev pub in_template6f : ℕ
in_template6f = 16

abbrev pub in_template70or77 : ℕ
in_template70or77 = in_template70 + in_template77

abbrev pub in_template70or_bf0c : ℕ
in_template70or_bf0c = in_template70 + in_template_bf0c

-- bits of `answers`: the one that brings an object, by its command: GET PROCESSING OPTIONS, READ RECORD, GENERATE AC,
-- COMPUTE CRYPTOGRAPHIC CHECKSUM
abbrev pub in_no_response : ℕ
in_no_response = 0

abbrev pub in_gpo_response : ℕ
in_gpo_response = 1

abbrev pub in_record_response : ℕ
in_record_response = 2

abbrev pub in_generate_ac_response : ℕ
in_generate_ac_response = 4

abbrev pub in_checksum_response : ℕ
in_checksum_response = 8

abbrev pub in_ac_or_checksum_response : ℕ
in_ac_or_checksum_response = in_generate_ac_response + in_checksum_response

abbrev pub in_any_response : ℕ
in_any_response = in_gpo_response + in_record_response + in_ac_or_checksum_response

-- whether a start must bring it
abbrev pub optional_at_start : ℕ
optional_at_start = 0

abbrev pub required_at_start : ℕ
required_at_start = 1

-- ---- rows by who sets the object; what no line of the table names is said here

-- the card, in these templates, by any answer that is read
abbrev pub card_row : Tag → Length → Length → ℕ → ℕ → Row
card_row tag least greatest form templates =
    row tag least greatest form set_by_card templates in_any_response optional_at_start

-- the start, which may leave it out
abbrev pub start_row : Tag → Length → Length → ℕ → Row
start_row tag least greatest form = row tag least greatest form set_by_start in_no_template in_no_response optional_at_start

-- the start, which must bring it
abbrev pub required_start_row : Tag → Length → Length → ℕ → Row
required_start_row tag least greatest form =
    row tag least greatest form set_by_start in_no_template in_no_response required_at_start

-- the session alone
abbrev pub session_row : Tag → Length → Length → ℕ → Row
session_row tag least greatest form = row tag least greatest form set_by_session in_no_template in_no_response optional_at_start
