-- Why a session is where it is, over the bytes that hold it (document 02, Item 7; docs/HOST.md).
-- Assumes nothing.
use Rattle.std.specs.Prelude.{Option, Some, None}
use Rattle.basics.specs.Reason.{refusal_record_out_of_ranges}
use Rattle.basics.specs.Types.{ResultWord}
use Rattle.session_record.specs.declared.Session.{Session}
use Rattle.layout.specs.Word.{refusal_word}
use Rattle.explain.specs.Explain.{explanation_of}
use Rattle.explain.specs.Word.{explanation_word}

-- the word of an explanation; bytes that hold no record are refused as a record that is out of its ranges
abbrev pub explanation_word_or_refusal : Option Session → ResultWord
explanation_word_or_refusal None = refusal_word refusal_record_out_of_ranges
explanation_word_or_refusal (Some s) = explanation_word (explanation_of s)
