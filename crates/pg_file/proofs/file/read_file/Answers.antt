use Rattle.std.specs.Str.{chars}
use Rattle.std.proofs.Common.{◌≡◌, ap, length, take, ◌≤◌, ℕ, List, sym, subst, ◌∙◌}
use Rattle.pg_file.specs.Syntax.{IsSyntaxOf}
use Rattle.pg_file.specs.Refusals.{IsBadAt, IsErrorAt}
use Rattle.pg_file.proofs.ReadLemmas.Spelled.{spells_within, spelled_within}
use Rattle.pg_file.proofs.ReadLemmas.Refused.{shown_memory, shown_refused, not_utf8_refused}
use Rattle.pg_file.proofs.file.read_file.Goals as goal

pub returns-in-Ok-text_read-clause-ok : goal.returns-in-Ok-text_read-clause-ok
returns-in-Ok-text_read-clause-ok g c =
    let cases = c.in-Ok.ensures.cases in
    let are = c.as_slice.ensures.value ∙ c.in_ok-characters.ensures.value in
    spells_within _ _ _ _ _ cases.1 cases.0 are c.in-Ok-text_read.ensures.short c.in-Ok-text_read.ensures.ok.spelled

pub returns-in-Ok-text_read-clause-characters : goal.returns-in-Ok-text_read-clause-characters
returns-in-Ok-text_read-clause-characters g c = c.in_ok-characters.ensures.value ∙ ap chars c.in-Ok.ensures.cases.0

pub returns-in-Ok-text_read-clause-syntax : goal.returns-in-Ok-text_read-clause-syntax
returns-in-Ok-text_read-clause-syntax g c =
    let read = c.in-Ok-text_read.read in
    let are = c.as_slice.ensures.value ∙ c.in_ok-characters.ensures.value ∙ ap chars c.in-Ok.ensures.cases.0 in
    subst (λ (cs : List ℕ). IsSyntaxOf cs read.0.lexemes.items read.0.items.items) are c.in-Ok-text_read.ensures.ok.syntax_is

pub returns-in-Ok-text_read-clause-only : goal.returns-in-Ok-text_read-clause-only
returns-in-Ok-text_read-clause-only g c =
    let are = c.as_slice.ensures.value ∙ c.in_ok-characters.ensures.value in
    λ g' h. c.in-Ok-text_read.ensures.ok.only g' (spelled_within _ _ _ _ _ c.in-Ok.ensures.cases.0 are h)

pub returns-in-Err-text_read-clause-refused : goal.returns-in-Err-text_read-clause-refused
returns-in-Err-text_read-clause-refused g c =
    let cases = c.in-Ok.ensures.cases in
    let are = c.as_slice.ensures.value ∙ c.in_ok-characters.ensures.value in
    λ g' h.
    let short : length c.in-Ok.text.now ≤ 262144 = subst (λ (bs : List ℕ). length bs ≤ 262144) (sym cases.0) h.short in
    c.reported-fault.ensures ∙ shown_memory _ _ (λ fault. c.in-Err-text_read.ensures.refused fault short g' (spelled_within _ _ _ _ _ cases.0 are h))

pub returns-in-Err-text_read-clause-err : goal.returns-in-Err-text_read-clause-err
returns-in-Err-text_read-clause-err g c =
    let cases = c.in-Ok.ensures.cases in
    let shown = c.as_slice-in-Err-text_read.ensures.value in
    let are = shown ∙ c.in_ok-characters.ensures.value ∙ ap chars cases.0 in
    let error = subst (λ (cs : List ℕ). IsErrorAt (IsBadAt cs) c.in-Err-text_read.error) (c.as_slice.ensures.value ∙ sym shown) c.in-Err-text_read.ensures.err in
    rw c.reported-fault.ensures (shown_refused _ _ _ cases.1 are error)

pub returns-in-Err-clause-err : goal.returns-in-Err-clause-err
returns-in-Err-clause-err g c =
    let cases = c.in-Err.ensures.cases in
    not_utf8_refused _ _ _ _ cases.0 cases.1 (ap (λ (n : ℕ). take n c.args.bytes.now) c.valid_up_to.ensures) c.not_utf8.ensures
