use Rattle.std.proofs.Common.{◌≡◌, ℕ, length, sym, ap, subst, ◌∙◌}
use Rattle.std.specs.Prelude.{◌↔◌, ◌||◌, IsTrue}
use Rattle.pg_graph_bits.proofs.Inside.{contains_none}
use Rattle.pg_graph_bits.specs.Numbers.{contains, set_at}
use Rattle.pg_sets.specs.Sets.{HasStart}
use Rattle.pg_certificate_verify.specs.Breaking.{BeginsBy, FollowsBy, BeginsLinkBy, SomeMeet}
use Rattle.pg_certificate_verify.proofs.Looking.{same_meet, link_is, separator_is}
use Rattle.pg_certificate_verify.proofs.rounds.link_meets_follow.Goals as goal

pub returns-then-not-nullable : goal.returns-then-not-nullable
returns-then-not-nullable c = λ g formed.
    let sets = c.args.sets.now in
    let r = c.sets_meet.result in
    let one = BeginsBy sets c.args.separator in
    let link = BeginsLinkBy sets c.args.operand c.args.separator in
    let follow = FollowsBy sets c.args.node in
    let told = subst (λ xs. IsTrue r ↔ SomeMeet g (HasStart sets.starts xs) follow) c.first-of_separator.ensures
    (subst (λ xs. IsTrue r ↔ SomeMeet g (HasStart sets.starts c.first-of_separator.result.now) (HasStart sets.starts xs)) c.follow-follow.ensures (c.sets_meet.ensures g formed)) in
    let same = separator_is sets c.args.operand c.args.separator (sym c.nullable.ensures ∙ c.if-not-nullable.true) in
    (λ is. same_meet g one link follow same (told.0 is), λ some. told.1 (same_meet g link one follow (λ start. ((same start).1, (same start).0)) some))

pub returns : goal.returns
returns c = λ g formed.
    let sets = c.args.sets.now in
    let r = c.sets_meet-2.result in
    let set = c.unite-2.new.self in
    let of_separator = set_at sets.firsts c.args.separator in
    let of_operand = set_at sets.firsts c.args.operand in
    let one = HasStart sets.starts set in
    let link = BeginsLinkBy sets c.args.operand c.args.separator in
    let follow = FollowsBy sets c.args.node in
    let told = subst (λ xs. IsTrue r ↔ SomeMeet g one (HasStart sets.starts xs)) c.follow-follow.ensures (c.sets_meet-2.ensures g formed) in
    let first : (n : ℕ) → contains c.unite.new.self n ≡ contains of_separator n =
    λ n. c.unite.ensures.united n
    ∙ (ap (λ b. b || contains c.first-of_separator.result.now n) (ap (λ xs. contains xs n) c.in_ok-link.ensures ∙ contains_none (length c.starts.result.now) n)
    ∙ ap (λ xs. contains xs n) c.first-of_separator.ensures) in
    let united : (n : ℕ) → contains set n ≡ (contains of_separator n || contains of_operand n) =
    λ n. c.unite-2.ensures.united n
    ∙ (ap (λ b. b || contains c.first-of_operand.result.now n) (first n) ∙ ap (λ xs. contains of_separator n || contains xs n) c.first-of_operand.ensures) in
    let same = link_is sets c.args.operand c.args.separator set (sym c.nullable.ensures ∙ c.if-not-nullable.false) united in
    (λ is. same_meet g one link follow same (told.0 is), λ some. told.1 (same_meet g link one follow (λ start. ((same start).1, (same start).0)) some))
