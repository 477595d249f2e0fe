use Rattle.pg_pred.specs.Offer.{offer_of}
use Rattle.pg_grammar_value.proofs.Items.{class_is_offered, lacks_none}
use Rattle.pg_grammar_value.proofs.grammar.Grammar.membership.Goals as goal

pub whole_membership-requires-clause-named : goal.whole_membership-requires-clause-named
whole_membership-requires-clause-named g c =
    rw (c.class_items-items.ensures.all, c.parts.ensures.same) (lacks_none c.args.self.now c.class_items-items.ensures.grammar c.requires.class)

pub whole_membership-requires-clause-parts : goal.whole_membership-requires-clause-parts
whole_membership-requires-clause-parts g c =
    λ r is. rw c.parts.ensures.same (class_is_offered (offer_of r.now) c.args.self.now (c.requires.fits r is) c.requires.class)
