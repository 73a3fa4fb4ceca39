-- A row without its tag, as the source has it: what it says, and that in one number, each column in its own bits.
-- Assumes nothing.
use Rattle.std.specs.Prelude.{ℕ, ◌+◌, ◌*◌, ◌/◌, ◌%◌}
use Rattle.dictionary.specs.declared.RowAttributes.{RowAttributes}
use Rattle.dictionary.specs.Rows.{Row, row}

-- what a row states besides its tag
abbrev pub attributes_of : Row → RowAttributes
attributes_of r =
    record {
      least = r.least;
      greatest = r.greatest;
      form = r.form;
      setters = r.setters;
      templates = r.templates;
      answers = r.answers;
      must = r.must;
    }

-- a row that says this, under the tag 0: for rules that do not read the tag
abbrev pub row_with_attributes_and_tag_zero : RowAttributes → Row
row_with_attributes_and_tag_zero a =
    row 0 a.least a.greatest a.form a.setters a.templates a.answers a.must

-- what a row states, in one number: 8 bits each for the lengths, 2 for the form, 3 for who may set it, 6 for the
-- templates, 4 for the answers, 1 for whether a start must bring it
abbrev pub packed_row_attributes : Row → ℕ
packed_row_attributes r =
    r.least + 256 * r.greatest + 65536 * r.form + 262144 * r.setters + 2097152 * r.templates
    + 134217728 * r.answers + 2147483648 * r.must

-- such a number taken apart
abbrev pub unpacked_row_attributes : ℕ → RowAttributes
unpacked_row_attributes n =
    record {
      least = n % 256;
      greatest = n / 256 % 256;
      form = n / 65536 % 4;
      setters = n / 262144 % 8;
      templates = n / 2097152 % 64;
      answers = n / 134217728 % 16;
      must = n / 2147483648 % 2;
    }
