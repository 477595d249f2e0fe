use Rattle.std.proofs.Common.{◌-◌, ◌<◌, List, ℕ, length, take, drop, sym, subst, rules}
use Rattle.std.specs.Option.{option_copied}
use Rattle.pg_corpus.specs.Lines.{IsCut}
use Rattle.pg_corpus.specs.Cases.{IsOpening}
use Rattle.pg_corpus.specs.declared.lines.Part.TheVariants.{Around, Between}
use Rattle.pg_corpus.proofs.Parts.{opened}
use Rattle.pg_corpus.proofs.case.read_opening.Goals as goal

pub returns-clause-opening : goal.returns-clause-opening
returns-clause-opening c =
    let more : 0 < length c.cut.result.1.now = search rules in
    let first : IsCut (Between c.in_ok-heading.heading.size) (drop (length c.first_line-mark.result.now) c.args.bytes.now) c.cut.result.0.now c.cut.result.1.now =
    subst (λ (l : List ℕ). IsCut (Between c.in_ok-heading.heading.size) l c.cut.result.0.now c.cut.result.1.now) c.behind.ensures c.cut.ensures in
    let last : IsCut Around (drop (length c.first_line-rule.result.now) c.cut.result.1.now) c.cut-2.result.0.now c.cut-2.result.1.now =
    subst (λ (l : List ℕ). IsCut Around l c.cut-2.result.0.now c.cut-2.result.1.now) c.behind-2.ensures c.cut-2.ensures in
    let is = opened c.args.bytes.now c.first_line-mark.result.now c.cut.result.0.now c.cut.result.1.now c.first_line-rule.result.now c.cut-2.result.0.now c.cut-2.result.1.now
    c.in_ok-heading.heading.name.now c.in_ok-heading.heading.size (option_copied c.in_ok-heading.heading.start)
    c.requires c.first_line-mark.ensures c.in_ok-heading.ensures first more c.first_line-rule.ensures last in
    subst (λ (text : List ℕ). IsOpening (take (length c.args.bytes.now - length c.cut-2.result.1.now) c.args.bytes.now) c.in_ok-heading.heading.name.now (option_copied c.in_ok-heading.heading.start) text) (sym c.without_feed.ensures) is.1

pub returns-clause-joined : goal.returns-clause-joined
returns-clause-joined c =
    let more : 0 < length c.cut.result.1.now = search rules in
    let first : IsCut (Between c.in_ok-heading.heading.size) (drop (length c.first_line-mark.result.now) c.args.bytes.now) c.cut.result.0.now c.cut.result.1.now =
    subst (λ (l : List ℕ). IsCut (Between c.in_ok-heading.heading.size) l c.cut.result.0.now c.cut.result.1.now) c.behind.ensures c.cut.ensures in
    let last : IsCut Around (drop (length c.first_line-rule.result.now) c.cut.result.1.now) c.cut-2.result.0.now c.cut-2.result.1.now =
    subst (λ (l : List ℕ). IsCut Around l c.cut-2.result.0.now c.cut-2.result.1.now) c.behind-2.ensures c.cut-2.ensures in
    let is = opened c.args.bytes.now c.first_line-mark.result.now c.cut.result.0.now c.cut.result.1.now c.first_line-rule.result.now c.cut-2.result.0.now c.cut-2.result.1.now
    c.in_ok-heading.heading.name.now c.in_ok-heading.heading.size (option_copied c.in_ok-heading.heading.start)
    c.requires c.first_line-mark.ensures c.in_ok-heading.ensures first more c.first_line-rule.ensures last in
    is.0
