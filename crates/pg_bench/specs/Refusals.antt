-- The faults that the steps that read and parse a text can fail with, and why.
use Rattle.std.specs.Prelude.{◌≡◌, ◌≤◌, ◌<◌, ◌+◌, ◌*◌, ◌⊎◌, ℕ, List, length, true, false, Option, None}
use Rattle.std.specs.Str.{chars, IsUtf8}
use Rattle.pg_text.specs.declared.text.TheConstants.{LIMIT}
use Rattle.pg_tree.specs.Meter.{Metered, saturating_sum}
use Rattle.pg_pred.specs.Offer.{Offer}
use Rattle.pg_grammar_value.specs.Grammar.{Grammar}
use Rattle.pg_machine.specs.declared.answer.Answer.{Answer}
use Rattle.pg_bench_grammar.specs.Files.{IsFaultOfFile, SpellsAny}
use Rattle.pg_bench_grammar.specs.Faults.{Claimed, memory_alone}
use Rattle.pg_bench_grammar.specs.declared.bench_fault.BenchFault.{BenchFault}
use Rattle.pg_bench.specs.Parsed.{IsErrorOfBytes, ReadsText}
use Rattle.pg_bench.specs.Promise.{IsErrorOfText}

-- ---- the reader, before and after a text is read from it

-- it failed, or gave more bytes than the longest text has
abbrev pub IsUnread : {R : Type 0} → Metered R → Metered R → Type 0
IsUnread before after = (after.failed ≡ true) ⊎ (saturating_sum before.bytes (4 * LIMIT + 1) ≤ after.bytes)

-- it didn't fail or give more
pub record IsWell {R : Type 0} (before after : Metered R) : Type 0 where
  pub failed : after.failed ≡ false
  pub bytes : after.bytes ≤ saturating_sum before.bytes (4 * LIMIT)

-- ---- the faults that each step can fail with

-- reading the text fails only with this, and for this reason
abbrev pub IsReadRefusal : {R : Type 0} → Metered R → Metered R → BenchFault → Type 0
IsReadRefusal before after = Claimed (record memory_alone { reader = IsUnread before after })

-- decoding these bytes fails only with this, and for this reason
abbrev pub IsTextRefusal : List ℕ → BenchFault → Type 0
IsTextRefusal bytes = Claimed (record memory_alone { not_utf8 = ¬ (IsUtf8 bytes); too_long = IsUtf8 bytes × (LIMIT < length (chars bytes)) })

-- an answer is turned into this fault: its error, if it isn't ok
abbrev pub IsErrorOfAnswer : Answer → BenchFault → Type 0
IsErrorOfAnswer a = Claimed (record memory_alone { parse_error = λ error. (a.success ≡ None) × (error ≡ a.error); memory = ⊥ })

-- parsing a text fails only with this, and for this reason
abbrev pub IsRunRefusal : Grammar → List ℕ → BenchFault → Type 0
IsRunRefusal g text = Claimed (record memory_alone { parse_error = IsErrorOfText g text })

-- parsing the text that these bytes spell fails only with this, and for this reason
abbrev pub IsParseRefusal : Grammar → List ℕ → BenchFault → Type 0
IsParseRefusal g bytes =
    Claimed (record memory_alone {
      not_utf8 = ¬ (IsUtf8 bytes);
      too_long = IsUtf8 bytes × (LIMIT < length (chars bytes));
      parse_error = IsErrorOfBytes g bytes;
    })

-- reading a text fails only with this, and for this reason
abbrev pub IsUnspelled : {R : Type 0} → Metered R → Metered R → Option (List ℕ) → Option (List ℕ) → BenchFault → Type 0
IsUnspelled before after reader left =
    Claimed (record memory_alone {
      reader = IsUnread before after;
      not_utf8 = IsWell before after × ReadsText reader left (λ bytes. ¬ (IsUtf8 bytes));
      too_long = IsWell before after × ReadsText reader left (λ bytes. IsUtf8 bytes × (LIMIT < length (chars bytes)));
    })

-- parsing what a reader gives fails only with this, and for this reason
abbrev pub IsTextFault : {R : Type 0} → Grammar → Metered R → Metered R → Option (List ℕ) → Option (List ℕ) → BenchFault → Type 0
IsTextFault g before after reader left =
    Claimed (record memory_alone {
      reader = IsUnread before after;
      not_utf8 = IsWell before after × ReadsText reader left (λ bytes. ¬ (IsUtf8 bytes));
      too_long = IsWell before after × ReadsText reader left (λ bytes. IsUtf8 bytes × (LIMIT < length (chars bytes)));
      parse_error = λ error. IsWell before after × ReadsText reader left (λ bytes. IsErrorOfBytes g bytes error);
    })

-- parsing a text and writing what is wanted of it fails only with this, and for this reason
abbrev pub IsWritingRefusal : Grammar → List ℕ → BenchFault → Type 0
IsWritingRefusal g text = Claimed (record memory_alone { parse_error = IsErrorOfText g text; writer = Unit {0} })

-- parsing what a reader gives and writing what is wanted of it fails only with this, and for this reason
abbrev pub IsWritingFault : {R : Type 0} → Grammar → Metered R → Metered R → Option (List ℕ) → Option (List ℕ) → BenchFault → Type 0
IsWritingFault g before after reader left =
    Claimed (record memory_alone {
      reader = IsUnread before after;
      not_utf8 = IsWell before after × ReadsText reader left (λ bytes. ¬ (IsUtf8 bytes));
      too_long = IsWell before after × ReadsText reader left (λ bytes. IsUtf8 bytes × (LIMIT < length (chars bytes)));
      parse_error = λ error. IsWell before after × ReadsText reader left (λ bytes. IsErrorOfBytes g bytes error);
      writer = IsWell before after;
    })

-- showing a text fails only with this: there is no trail, if that may be
abbrev pub IsShowRefusal : Type 0 → BenchFault → Type 0
IsShowRefusal NoTrail = Claimed (record memory_alone { not_a_trail = NoTrail })

-- showing the text that these bytes spell fails only with this
abbrev pub IsBytesRefusal : Type 0 → List ℕ → BenchFault → Type 0
IsBytesRefusal NoTrail bytes =
    Claimed (record memory_alone { not_utf8 = ¬ (IsUtf8 bytes); too_long = IsUtf8 bytes × (LIMIT < length (chars bytes)); not_a_trail = NoTrail })

-- showing what a reader gives fails only with this
abbrev pub IsShowFault : {R : Type 0} → Type 0 → Metered R → Metered R → Option (List ℕ) → Option (List ℕ) → BenchFault → Type 0
IsShowFault NoTrail before after reader left =
    Claimed (record memory_alone {
      reader = IsUnread before after;
      not_utf8 = IsWell before after × ReadsText reader left (λ bytes. ¬ (IsUtf8 bytes));
      too_long = IsWell before after × ReadsText reader left (λ bytes. IsUtf8 bytes × (LIMIT < length (chars bytes)));
      not_a_trail = IsWell before after × NoTrail;
    })

-- showing with the grammar that a file spells fails only with this
abbrev pub IsShownRefusal : {R : Type 0} → Type 0 → Offer → List ℕ → Metered R → Metered R → Option (List ℕ) → Option (List ℕ) → BenchFault → Type 0
IsShownRefusal NoTrail offer file before after reader left =
    Claimed (record memory_alone {
      file = λ fault. IsFaultOfFile offer file fault × (after ≡ before);
      reader = SpellsAny offer file × IsUnread before after;
      not_utf8 = SpellsAny offer file × IsWell before after × ReadsText reader left (λ bytes. ¬ (IsUtf8 bytes));
      too_long = SpellsAny offer file × IsWell before after × ReadsText reader left (λ bytes. IsUtf8 bytes × (LIMIT < length (chars bytes)));
      not_a_trail = SpellsAny offer file × IsWell before after × NoTrail;
    })
