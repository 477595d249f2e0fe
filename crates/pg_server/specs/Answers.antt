-- What a message brings about.
use Rattle.std.specs.Prelude.{◌≡◌, ⊤, Option, Some, None}
use Rattle.pg_server_messages.specs.declared.message.Id.{Id}
use Rattle.pg_server_messages.specs.declared.message.Message.{Message}
use Rattle.pg_server_messages.specs.declared.message.Message.TheVariants.{Request, Notification as Told, Response, Invalid}
use Rattle.pg_server_messages.specs.declared.outgoing.Outgoing.{Outgoing}
use Rattle.pg_server_messages.specs.declared.outgoing.Outgoing.TheVariants.{Answer, Refusal, Notification}
use Rattle.pg_server.specs.declared.reaction.Reaction.{Reaction}
use Rattle.pg_server.specs.declared.reaction.Reaction.TheVariants.{Nothing, Says, Ends}

-- the answer or the refusal of the request with this id
abbrev pub IsAnswerTo : Id → Outgoing → Type 0
IsAnswerTo id (Answer other result) = other ≡ id
IsAnswerTo id (Refusal other code words) = other ≡ Some id
IsAnswerTo id (Notification method params) = ⊥

-- one answer, to the request with this id
abbrev pub AnswersTo : Id → Reaction → Type 0
AnswersTo id (Says out) = IsAnswerTo id out
AnswersTo id Nothing = ⊥
AnswersTo id (Ends status) = ⊥

-- no answer, and no refusal
abbrev pub IsNoAnswer : Outgoing → Type 0
IsNoAnswer (Answer id result) = ⊥
IsNoAnswer (Refusal id code words) = ⊥
IsNoAnswer (Notification method params) = ⊤

-- nothing is answered
abbrev pub AnswersNothing : Reaction → Type 0
AnswersNothing (Says out) = IsNoAnswer out
AnswersNothing Nothing = ⊤
AnswersNothing (Ends status) = ⊤

-- one refusal, with this id or with none
abbrev pub IsRefusal : Option Id → Outgoing → Type 0
IsRefusal id (Answer other result) = ⊥
IsRefusal id (Refusal other code words) = other ≡ id
IsRefusal id (Notification method params) = ⊥

abbrev pub Refuses : Option Id → Reaction → Type 0
Refuses id (Says out) = IsRefusal id out
Refuses id Nothing = ⊥
Refuses id (Ends status) = ⊥

-- what a message is to bring about: a request one answer with its id, and no other message an answer; what is no message is refused
abbrev pub Suits : Message → Reaction → Type 0
Suits (Request id method params) reaction = AnswersTo id reaction
Suits (Told method params) reaction = AnswersNothing reaction
Suits Response reaction = AnswersNothing reaction
Suits (Invalid id) reaction = Refuses id reaction
