-- An error without messages is neutral, where it stands no later.
use Rattle.std.proofs.Common.{◌≡◌, ◌≤◌, List, [], ◌∷◌, Bool, true, false, refl, sym, ap, ◌∙◌, arith, length}
use Rattle.std.proofs.lemmas.Bool.Decides.{nat_tests}
use Rattle.std.specs.Prelude.{◌&&◌, ◌==◌, nat_lt, if◌then◌else◌}
use Rattle.pg_message.specs.Messages.{Text, Messages, no_messages, is_empty, with_messages}
use Rattle.pg_message.specs.Errors.{later, merged}
use Rattle.pg_message.specs.declared.error.ParseError.{ParseError}
use Rattle.pg_message.proofs.Merging.{by_tests}

empty_list : (xs : List Text) → (length xs == 0) ≡ true → xs ≡ []
empty_list [] h = refl
empty_list (x ∷ xs) h = grind (arith, nat_tests)

each_true : (a b c d : Bool) → (a && b && c && d) ≡ true → (a ≡ true) × (b ≡ true) × (c ≡ true) × (d ≡ true)
each_true true true true true h = (refl, refl, refl, refl)
each_true true true true false h = cc
each_true true true false d h = cc
each_true true false c d h = cc
each_true false b c d h = cc

-- messages are equal where their lists are
same_messages : (m n : Messages) → m.system_unexpected ≡ n.system_unexpected → m.unexpected ≡ n.unexpected → m.expected ≡ n.expected → m.plain ≡ n.plain → m ≡ n
same_messages m n a b c d =
    ap (λ (x : List Text). let r : Messages = record m { system_unexpected = x } in r) a ∙ ap (λ (x : List Text). let r : Messages = record n { unexpected = x; expected = m.expected; plain = m.plain } in r) b ∙ ap (λ (x : List Text). let r : Messages = record n { expected = x; plain = m.plain } in r) c ∙ ap (λ (x : List Text). let r : Messages = record n { plain = x } in r) d

none_there : (m : Messages) → is_empty m ≡ true → m ≡ no_messages
none_there m h =
    let each = each_true (length m.system_unexpected == 0) (length m.unexpected == 0) (length m.expected == 0) (length m.plain == 0) h in
    same_messages m no_messages (empty_list m.system_unexpected each.0) (empty_list m.unexpected each.1) (empty_list m.expected each.2) (empty_list m.plain each.3)

-- of an error and one without messages that stands no later, the later one
later-nothing : (error nothing : ParseError) → nothing.messages ≡ no_messages → nothing.place ≤ error.place → later error nothing ≡ error
later-nothing error nothing h k =
    ap (λ b. if b then nothing else if nat_lt nothing.place error.place then error else record error { messages = with_messages error.messages nothing.messages }) not_before ∙ either (nat_lt nothing.place error.place)
  where
    not_before : nat_lt error.place nothing.place ≡ false
    not_before = grind (arith, nat_tests)

    either : (b : Bool) → (if b then error else record error { messages = with_messages error.messages nothing.messages }) ≡ error
    either true = refl
    either false = ap (λ m. record error { messages = with_messages error.messages m }) h

nothing-later : (error nothing : ParseError) → nothing.messages ≡ no_messages → error.messages ≡ no_messages → nothing.place ≤ error.place → (nothing.place ≡ error.place → nothing.position ≡ error.position) → later nothing error ≡ error
nothing-later error nothing h l k same = either (nat_lt nothing.place error.place) refl
  where
    either : (b : Bool) → nat_lt nothing.place error.place ≡ b → (if b then error else if nat_lt error.place nothing.place then nothing else record nothing { messages = with_messages nothing.messages error.messages }) ≡ error
    either true e = refl
    either false e =
        let not_before : nat_lt error.place nothing.place ≡ false = grind (arith, nat_tests) in
        let one_place : nothing.place ≡ error.place = grind (arith, nat_tests) in
        ap (λ b. if b then nothing else record nothing { messages = with_messages nothing.messages error.messages }) not_before ∙ ap (λ m. record nothing { messages = with_messages m error.messages }) h ∙ ap (λ m. record nothing { messages = with_messages no_messages m }) l ∙ ap (λ p. record nothing { place = p; messages = no_messages }) one_place ∙ ap (λ p. record error { position = p; messages = no_messages }) (same one_place) ∙ ap (λ m. record error { messages = m }) (sym l)

pub merged-nothing : (error nothing : ParseError) → is_empty nothing.messages ≡ true → nothing.place ≤ error.place → merged error nothing ≡ error
merged-nothing error nothing h k = either (is_empty error.messages) refl
  where
    either : (b : Bool) → is_empty error.messages ≡ b → merged error nothing ≡ error
    either true e = by_tests true true error nothing e h ∙ later-nothing error nothing (none_there nothing.messages h) k
    either false e = by_tests false true error nothing e h

pub nothing-merged : (error nothing : ParseError) → is_empty nothing.messages ≡ true → nothing.place ≤ error.place → (nothing.place ≡ error.place → nothing.position ≡ error.position) → merged nothing error ≡ error
nothing-merged error nothing h k same = either (is_empty error.messages) refl
  where
    either : (b : Bool) → is_empty error.messages ≡ b → merged nothing error ≡ error
    either true e = by_tests true true nothing error h e ∙ nothing-later error nothing (none_there nothing.messages h) (none_there error.messages e) k same
    either false e = by_tests true false nothing error h e
