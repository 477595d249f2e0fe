use Rattle.std.proofs.Common.{◌-◌, ℕ, List, reverse, refl, ap, sym, ◌∙◌, subst}
use Rattle.pg_tree.specs.Kept.{Kept}
use Rattle.pg_tree.specs.Entries.{Opens}
use Rattle.pg_tree.specs.declared.entries.Seen.{Seen}
use Rattle.pg_corpus_outline.specs.Reading.{AreBefore}
use Rattle.pg_corpus_outline.proofs.Steps.{leaf_reads, node_reads, away_reads}
use Rattle.pg_corpus_outline.proofs.reading.Reading.read.Goals as goal

pub returns-in_ok-push-in-Leaf-clause-reads : goal.returns-in_ok-push-in-Leaf-clause-reads
returns-in_ok-push-in-Leaf-clause-reads c =
    λ earlier all before count o h.
    leaf_reads _ _ all c.in-Leaf.text (subst (λ (n : ℕ). AreBefore n (reverse c.args.self.now.opened.items)) count before)
    (subst (λ (s : Seen). Opens earlier s c.args.self.now.entries) c.in-Leaf.is o) refl c.in_ok-push-in-Leaf.ensures.items h

pub returns-in_ok-enter-in-Node-clause-reads : goal.returns-in_ok-enter-in-Node-clause-reads
returns-in_ok-enter-in-Node-clause-reads c =
    λ earlier all before count o h.
    let e = c.in_ok-enter-in-Node.ensures.opened in
    node_reads _ _ all c.in-Node.label c.in-Node.size e.0 (subst (λ (n : ℕ). AreBefore n (reverse c.args.self.now.opened.items)) count before)
    (subst (λ (s : Seen). Opens earlier s c.enter.new.self.entries) c.in-Node.is
    (subst (λ (ts : List Kept). Opens earlier c.args.seen ts) (sym c.in_ok-enter-in-Node.ensures.entries) o))
    e.2 (e.3 ∙ c.saturating_sub.ensures ∙ ap (λ n. n - c.in-Node.size) count) e.1 c.in_ok-enter-in-Node.ensures.pieces h

pub returns-in-Away-clause-reads : goal.returns-in-Away-clause-reads
returns-in-Away-clause-reads c =
    λ earlier all before count o h.
    away_reads _ _ all (subst (λ (n : ℕ). AreBefore n (reverse c.args.self.now.opened.items)) count before)
    (subst (λ (s : Seen). Opens earlier s c.args.self.now.entries) c.in-Away.is o) refl refl h
