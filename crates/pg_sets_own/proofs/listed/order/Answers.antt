use Rattle.std.proofs.Common.{◌≡◌, sym, ap, ◌∙◌}
use Rattle.std.specs.Cmp.Lexicographic.{slice_cmp}
use Rattle.std.specs.Ordering.{is_ne, nat_cmp, ordering_then}
use Rattle.std.specs.declared.cmp.Ordering.{Ordering}
use Rattle.pg_sets_own.specs.Listed.{kind_number, key_text, ranges_of, heads_of, rest_of, reserved_of, word_of, text_order, ranges_order}
use Rattle.pg_sets_own.specs.declared.listed.ListedStart.{ListedStart}
use Rattle.pg_sets_own.proofs.Comparing.{by_keys, by_names, by_parts}
use Rattle.pg_sets_own.proofs.listed.order.Goals as goal

both : {A B C : Type 0} (f : A → B → C) {a other : A} {b next : B} → a ≡ other → b ≡ next → f a b ≡ f other next
both f {a} {other} {b} {next} e h = ap (λ x. f x b) e ∙ ap (f other) h

-- the comparisons of two starts, one by one
abbrev keys : ListedStart → ListedStart → Ordering
keys a b = ordering_then (nat_cmp (kind_number a.start) (kind_number b.start)) (text_order (key_text a.start) (key_text b.start))

abbrev ranges : ListedStart → ListedStart → Ordering
ranges a b = ranges_order (ranges_of a.start) (ranges_of b.start)

abbrev words : ListedStart → ListedStart → Ordering
words a b = nat_cmp (word_of a) (word_of b)

abbrev heads : ListedStart → ListedStart → Ordering
heads a b = ranges_order (heads_of a.start) (heads_of b.start)

abbrev rests : ListedStart → ListedStart → Ordering
rests a b = ranges_order (rest_of a.start) (rest_of b.start)

abbrev texts : ListedStart → ListedStart → Ordering
texts a b = slice_cmp text_order (reserved_of a.start) (reserved_of b.start)

pub returns-then-is_ne : goal.returns-then-is_ne
returns-then-is_ne c =
    let a = c.args.one.now in
    let b = c.args.other.now in
    let one = c.view-a.ensures.same in
    let other = c.view-b.ensures.same in
    let kinds = c.cmp.ensures ∙ both nat_cmp (c.kind_number.ensures ∙ ap kind_number one) (c.kind_number-2.ensures ∙ ap kind_number other) in
    let spelled = c.cmp-2.ensures ∙ both text_order (c.key_text.ensures ∙ ap key_text one) (c.key_text-2.ensures ∙ ap key_text other) in
    let first : c.then-keys.result ≡ keys a b = c.then-keys.ensures ∙ both ordering_then kinds spelled in
    first ∙ sym (by_keys (keys a b) (ranges a b) (words a b) (heads a b) (rests a b) (texts a b) (ap is_ne (sym first) ∙ (sym c.is_ne.ensures ∙ c.if-is_ne.true)))

pub returns-then-is_ne-2 : goal.returns-then-is_ne-2
returns-then-is_ne-2 c =
    let a = c.args.one.now in
    let b = c.args.other.now in
    let one = c.view-a.ensures.same in
    let other = c.view-b.ensures.same in
    let kinds = c.cmp.ensures ∙ both nat_cmp (c.kind_number.ensures ∙ ap kind_number one) (c.kind_number-2.ensures ∙ ap kind_number other) in
    let spelled = c.cmp-2.ensures ∙ both text_order (c.key_text.ensures ∙ ap key_text one) (c.key_text-2.ensures ∙ ap key_text other) in
    let first : c.then-keys.result ≡ keys a b = c.then-keys.ensures ∙ both ordering_then kinds spelled in
    let listed = c.cmp-3.ensures ∙ both ranges_order (c.ranges_of.ensures ∙ ap ranges_of one) (c.ranges_of-2.ensures ∙ ap ranges_of other) in
    let named : c.then-named.result ≡ ordering_then (ranges a b) (words a b) = c.then-named.ensures ∙ both ordering_then listed c.cmp-4.ensures in
    named ∙ sym (by_names (keys a b) (ranges a b) (words a b) (heads a b) (rests a b) (texts a b) (ap is_ne (sym first) ∙ (sym c.is_ne.ensures ∙ c.if-is_ne.false))
    (ap is_ne (sym named) ∙ (sym c.is_ne-2.ensures ∙ c.if-is_ne-2.true)))

pub returns : goal.returns
returns c =
    let a = c.args.one.now in
    let b = c.args.other.now in
    let one = c.view-a.ensures.same in
    let other = c.view-b.ensures.same in
    let kinds = c.cmp.ensures ∙ both nat_cmp (c.kind_number.ensures ∙ ap kind_number one) (c.kind_number-2.ensures ∙ ap kind_number other) in
    let spelled = c.cmp-2.ensures ∙ both text_order (c.key_text.ensures ∙ ap key_text one) (c.key_text-2.ensures ∙ ap key_text other) in
    let first : c.then-keys.result ≡ keys a b = c.then-keys.ensures ∙ both ordering_then kinds spelled in
    let listed = c.cmp-3.ensures ∙ both ranges_order (c.ranges_of.ensures ∙ ap ranges_of one) (c.ranges_of-2.ensures ∙ ap ranges_of other) in
    let named : c.then-named.result ≡ ordering_then (ranges a b) (words a b) = c.then-named.ensures ∙ both ordering_then listed c.cmp-4.ensures in
    let begins = c.cmp-5.ensures ∙ both ranges_order (c.heads_of.ensures ∙ ap heads_of one) (c.heads_of-2.ensures ∙ ap heads_of other) in
    let goes_on = c.cmp-6.ensures ∙ both ranges_order (c.rest_of.ensures ∙ ap rest_of one) (c.rest_of-2.ensures ∙ ap rest_of other) in
    let reserved = c.texts_order.ensures ∙ both (slice_cmp text_order) (c.reserved_of.ensures ∙ ap reserved_of one) (c.reserved_of-2.ensures ∙ ap reserved_of other) in
    c.then-2.ensures ∙ (both ordering_then (c.then.ensures ∙ both ordering_then begins goes_on) reserved
    ∙ sym (by_parts (keys a b) (ranges a b) (words a b) (heads a b) (rests a b) (texts a b) (ap is_ne (sym first) ∙ (sym c.is_ne.ensures ∙ c.if-is_ne.false))
    (ap is_ne (sym named) ∙ (sym c.is_ne-2.ensures ∙ c.if-is_ne-2.false))))
