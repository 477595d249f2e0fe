-- A bad token among those that were read up to the limit is the file's.
use Rattle.std.proofs.Common.{◌≡◌, ℕ, true, List, Some, subst}
use Rattle.std.specs.List.{list_any}
use Rattle.pg_file_tokens.specs.declared.token.Lexeme.{Lexeme}
use Rattle.pg_file_tokens.specs.View.{is_bad_at}
use Rattle.pg_file.specs.Refusals.{IsBadAt}
use Rattle.pg_file.proofs.ReadLemmas.Refused.{found_bad, kind_leads}
use Rattle.pg_file.proofs.file.fault_before.Goals as goal

pub returns-in-Err-Fault-default-Some : goal.returns-in-Err-Fault-default-Some
returns-in-Err-Fault-default-Some c =
    let all = c.in-Ok.lexemes.items in
    let passed = c.as_slice-in-Err-Fault-default-Some.result.now in
    let same = c.as_slice-in-Err-Fault-default-Some.ensures.value in
    let bad : (place : ℕ) → list_any (is_bad_at place) passed ≡ true → IsBadAt c.args.characters.now place =
    λ place h. found_bad c.args.characters.now c.args.limit all c.in-Ok.ensures.exact place (subst (λ (ls : List Lexeme). list_any (is_bad_at place) ls ≡ true) same h) in
    kind_leads (λ place. list_any (is_bad_at place) passed ≡ true) (IsBadAt c.args.characters.now) bad (Some c.in-Err-Fault-default-Some.place) c.kind_of.result c.kind_of.ensures
