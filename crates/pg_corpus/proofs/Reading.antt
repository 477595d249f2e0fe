-- Cases read one after another.
use Rattle.std.proofs.Common.{◌≡◌, ℕ, List, [], ◌∷◌, ◌++◌, Result, Ok, Err, refl, sym, ap, subst, ◌∙◌, arith}
use Rattle.std.proofs.lemmas.List.{append_assoc}
use Rattle.std.proofs.lemmas.List.Concat.{flat_map-append}
use Rattle.std.proofs.lemmas.List.Elements.{All-push}
use Rattle.std.specs.List.{flat_map, All}
use Rattle.std.specs.Prelude.{IfOk}
use Rattle.pg_corpus.specs.Cases.{IsCase, IsWrittenAs, case_bytes}
use Rattle.pg_corpus.specs.declared.case.Case.{Case}
use Rattle.pg_corpus.specs.declared.corpus.Corpus.{Corpus}
use Rattle.pg_corpus.specs.declared.fault.CorpusError.{CorpusError}

-- the bytes before the rest are cases
pub record AreRead (bytes rest : List ℕ) (cases : List Case) : Type 0 where
  pub joined : bytes ≡ flat_map case_bytes cases ++ rest
  pub are : All IsCase cases

pub no_case : (bytes : List ℕ) → AreRead bytes bytes []
no_case bytes = record { joined = refl; are = λ k d below. absurd (omega arith) }

append_none : (xs : List ℕ) → xs ++ [] ≡ xs
append_none [] = refl
append_none (x ∷ xs) = ap (λ l. x ∷ l) (append_none xs)

-- the cases and one more, in bytes
pub one_more : (cases : List Case) (case : Case) → flat_map case_bytes (cases ++ case ∷ []) ≡ flat_map case_bytes cases ++ case_bytes case
one_more cases case = flat_map-append case_bytes cases (case ∷ []) ∙ ap (λ l. flat_map case_bytes cases ++ l) (append_none (case_bytes case))

pub one_case : (bytes left behind : List ℕ) (cases : List Case) (case : Case) → AreRead bytes left cases → IsCase case → left ≡ case_bytes case ++ behind
    → AreRead bytes behind (cases ++ case ∷ [])
one_case bytes left behind cases case so_far is joined = record {
  joined = so_far.joined ∙ (ap (λ l. flat_map case_bytes cases ++ l) joined
      ∙ (sym (append_assoc (flat_map case_bytes cases) (case_bytes case) behind) ∙ ap (λ l. l ++ behind) (sym (one_more cases case))));
  are = All-push IsCase cases case so_far.are is;
}

pub all_read : (bytes rest : List ℕ) (cases : List Case) → AreRead bytes rest cases → rest ≡ [] → bytes ≡ flat_map case_bytes cases
all_read bytes rest cases so_far none = so_far.joined ∙ (ap (λ l. flat_map case_bytes cases ++ l) none ∙ append_none (flat_map case_bytes cases))

-- a corpus that is passed on
pub same_written : (r : Result Corpus CorpusError) (bytes : List ℕ) (corpus : Corpus) → IfOk r (λ same. same ≡ corpus) → IsWrittenAs bytes corpus → IfOk r (IsWrittenAs bytes)
same_written (Ok c) bytes corpus same written = subst (IsWrittenAs bytes) (sym same) written
same_written (Err e) bytes corpus same written = tt
