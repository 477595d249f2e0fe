use Rattle.std.proofs.Common.{arith, ◌≡◌, ◌≤◌, ◌<◌, ◌∷◌, ◌++◌, List, length, drop, ap, sym, subst, ◌∙◌}
use Rattle.std.proofs.lemmas.Bool.Decides.{nat_tests}
use Rattle.pg_grammar_form.specs.Forms.{Node}
use Rattle.pg_file_print.specs.declared.levels.Level.{Level}
use Rattle.pg_file_tokens.specs.Tokens.{Token}
use Rattle.pg_file_items.specs.Syntax.{written}
use Rattle.pg_file_print.specs.Canonical.{value_at}
use Rattle.pg_file_print.specs.Layout.{Laid, with_tokens}
use Rattle.pg_file_print.specs.Levels.{needed, coming, closing, levels_after, node_piece, node_values, AreBodies}
use Rattle.pg_file_print.proofs.PrinterLemmas.Tokens.{laid_both}
use Rattle.pg_file_print.proofs.PrinterLemmas.Bodies.{root_is, first_comes, some_needed, node_step}
use Rattle.pg_file_print.proofs.body.put_body.Goals as goal

pub loop-node-init : goal.loop-node-init
loop-node-init c =
    let values = node_values c.args.grammar.now c.args.nodes.now in
    let at_root = root_is c.enter.new.levels.items c.new-levels.result.items c.in_ok-enter.ensures.levels c.new-levels.ensures.items in
    record {
      bodies = c.requires.bodies;
      enough = subst (λ (ls : List Level). needed ls ≤ length values) (sym at_root) c.requires.some;
      text = ap (λ (ls : List Level). with_tokens c.enter.new.out (coming written ls values)) at_root
          ∙ ap (with_tokens c.enter.new.out) (first_comes values c.requires.some)
          ∙ ap (λ (laid : Laid). with_tokens laid (written (value_at 0 values) _)) c.in_ok-enter.ensures.text;
      after = ap (λ (ls : List Level). drop (needed ls) values) at_root;
    }

pub loop-node-preserved : goal.loop-node-preserved
loop-node-preserved c =
    let g = c.args.grammar.now in
    let out = c.loop-node.out in
    let levels = c.loop-node.levels.items in
    let node = c.in-Some.node.now in
    let following = c.in-Some.after.now in
    let piece = node_piece g node in
    let front : c.loop-node.rest.now ≡ node ∷ following = c.in-Some.ensures.cases.0 in
    let before = c.loop-node.invariant in
    let some : 0 < needed levels = some_needed levels (grind (arith, nat_tests, c.is_empty.ensures, c.if-is_empty.false)) in
    let step = node_step g levels node following (subst (AreBodies g) front before.bodies) (subst (λ (ns : List Node). needed levels ≤ length (node_values g ns)) front before.enough) some in
    let here = c.in_ok-put_node.ensures in
    let after : List Token = coming written (levels_after piece levels) (node_values g following) in
    record {
      bodies = step.bodies;
      enough = subst (λ (ls : List Level). needed ls ≤ length (node_values g following)) (sym here.levels) step.enough;
      text =
          ap (λ (ls : List Level). with_tokens c.put_node.new.out (coming written ls (node_values g following))) here.levels
          ∙ ap (λ (laid : Laid). with_tokens laid after) here.text
          ∙ laid_both out (piece.front ++ closing piece.count piece.ending levels) after
          ∙ ap (with_tokens out) step.text
          ∙ ap (λ (ns : List Node). with_tokens out (coming written levels (node_values g ns))) (sym front)
          ∙ before.text;
      after =
          ap (λ (ls : List Level). drop (needed ls) (node_values g following)) here.levels
          ∙ step.rest
          ∙ ap (λ (ns : List Node). drop (needed levels) (node_values g ns)) (sym front)
          ∙ before.after;
    }
