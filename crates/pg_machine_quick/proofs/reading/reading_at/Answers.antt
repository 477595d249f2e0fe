use Rattle.pg_machine_quick.proofs.ReadSo.{satisfy_at, not_followed_at, string_at, end_at, word_node_at, declaration_node_at}
use Rattle.pg_machine_quick.proofs.reading.reading_at.Goals as goal

pub returns-in-Satisfy : goal.returns-in-Satisfy
returns-in-Satisfy c = λ table.
    satisfy_at c.args.grammar.now c.args.text.now table c.args.id c.args.place c.args.node.now c.in_ok-characters.field-0.now c.in-Satisfy.field-0 c.satisfy.result
    c.requires c.in_ok-characters.ensures c.in-Satisfy.is (c.satisfy.ensures table)

pub returns-in-String : goal.returns-in-String
returns-in-String c = λ table.
    string_at c.args.grammar.now c.args.text.now table c.args.place c.args.node.now c.in_ok-characters.field-0.now c.as_slice.result.now c.string.result
    c.in_ok-characters.ensures (cc) (c.string.ensures table)

pub returns-in-NotFollowedBy : goal.returns-in-NotFollowedBy
returns-in-NotFollowedBy c = λ table.
    not_followed_at c.args.grammar.now c.args.text.now table c.args.id c.args.place c.args.node.now c.in_ok-characters.field-0.now c.in-NotFollowedBy.field-0 c.not_followed.result
    c.requires c.in_ok-characters.ensures c.in-NotFollowedBy.is (c.not_followed.ensures table)

pub returns-in-EndOfText : goal.returns-in-EndOfText
returns-in-EndOfText c = λ table.
    end_at c.args.grammar.now c.args.text.now table c.args.place c.args.node.now c.in_ok-characters.field-0.now c.end.result
    c.in_ok-characters.ensures c.in-EndOfText.is (c.end.ensures table)

pub returns-in-Word : goal.returns-in-Word
returns-in-Word c = word_node_at c.args.grammar.now c.args.text.now c.args.place c.in-Word.number c.args.node.now c.in_ok-characters.field-0.now c.word.result
    c.in_ok-characters.ensures c.in-Word.is c.word.ensures

pub returns-in-Declare : goal.returns-in-Declare
returns-in-Declare c = declaration_node_at c.args.grammar.now c.args.text.now c.args.id c.args.place c.args.node.now c.in_ok-characters.field-0.now c.in-Declare.field-0 c.undeclared.result
    c.requires c.in_ok-characters.ensures c.in-Declare.is c.undeclared.ensures
