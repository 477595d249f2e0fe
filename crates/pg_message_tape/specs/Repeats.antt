-- Messages that rows repeat in turn, kept as one entry with a count.
use Rattle.std.specs.Prelude.{ℕ, zero, suc, Bool, true, false, List, [], ◌∷◌}
use Rattle.std.specs.List.{flat_map, sum_by}
use Rattle.pg_message.specs.declared.kind.MessageKind.TheVariants.{Expected}
use Rattle.pg_message_tape.specs.Messages.{TapeMessage, tape_message_of}
use Rattle.pg_message_tape.specs.declared.message.Message.{Message}
use Rattle.pg_message_tape.specs.declared.message.Message.TheVariants.{WantedNameless}
use Rattle.pg_message_tape.specs.declared.repeated.Repeated.{Repeated}

-- that something without a name was expected
abbrev pub nameless : TapeMessage
nameless = record { kind = Expected; text = [] }

-- a message, or the nameless one in its place
abbrev pub or_nameless : Bool → Message → TapeMessage
or_nameless true m = nameless
or_nameless false m = tape_message_of m

-- the first n messages of two that alternate
abbrev pub in_turn : ℕ → TapeMessage → TapeMessage → List TapeMessage
in_turn zero a b = []
in_turn (suc n) a b = a ∷ in_turn n b a

-- which of two alternating things comes after n of them
abbrev pub turn_after : {A : Type 0} → ℕ → A → A → A
turn_after zero a b = a
turn_after (suc n) a b = turn_after n b a

abbrev pub first_of : Repeated → TapeMessage
first_of r = or_nameless r.nameless_first r.message

abbrev pub second_of : Repeated → TapeMessage
second_of r = or_nameless r.nameless_second r.message

-- the message that would continue an entry
abbrev pub next_of : Repeated → TapeMessage
next_of r = turn_after r.more (second_of r) (first_of r)

-- the messages of an entry: the first, and `more` others in turn
abbrev pub repeated : Repeated → List TapeMessage
repeated r = first_of r ∷ in_turn r.more (second_of r) (first_of r)

-- the messages of all entries, in order
abbrev pub said : List Repeated → List TapeMessage
said rs = flat_map repeated rs

-- how many messages an entry has after its first
abbrev pub times_more : Repeated → ℕ
times_more r = r.more

-- how many more messages than entries there are
abbrev pub more_said : List Repeated → ℕ
more_said rs = sum_by times_more rs

-- how many of n alternating messages aren't nameless, given whether the first and the second are
abbrev pub own_in_turn : ℕ → Bool → Bool → ℕ
own_in_turn zero first second = 0
own_in_turn (suc n) true second = own_in_turn n second true
own_in_turn (suc n) false second = suc (own_in_turn n second false)

-- how many times an entry's own message occurs in it
abbrev pub own_times : Repeated → ℕ
own_times r = own_in_turn (suc r.more) r.nameless_first r.nameless_second

abbrev pub is_nameless : Message → Bool
is_nameless WantedNameless = true
is_nameless _ = false
