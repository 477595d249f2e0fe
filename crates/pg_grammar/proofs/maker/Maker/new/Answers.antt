use Rattle.std.proofs.Common.{[], refl, arith}
use Rattle.pg_grammar_form.specs.ClassItems.{AreClasses}
use Rattle.pg_grammar_form.specs.WordItems.{AreWords}
use Rattle.pg_grammar.proofs.maker.Maker.new.Goals as goal

pub invariant_of-result : goal.invariant_of-result
invariant_of-result c =
    let nothing : AreClasses [] = record { distinct = tt; earlier = tt; ascend = tt; few = omega arith } in
    let no_words : AreWords 0 [] = record { distinct = tt; known = refl; literals = refl; few = omega arith } in
    rw (c.new.ensures.items, c.new-2.ensures.items, c.new-3.ensures.items, c.new-4.ensures.items, c.new-5.ensures.items)
    (record {
      whole = refl;
      distinct = tt;
      literals = refl;
      alternatives = refl;
      spelled = refl;
      classes = nothing;
      words = no_words;
      operators = tt;
      initials = tt;
      classes_named = refl;
      few_rules = omega arith;
      few_nodes = omega arith;
    })
