use Rattle.std.proofs.Common.{◌++◌, codes, ap}
use Rattle.pg_table.specs.FaultLabels.{fault_label}
use Rattle.pg_file.specs.Texts.{kind_text}
use Rattle.pg_report.proofs.json.code_of.Goals as goal

pub returns-in-NotUtf8 : goal.returns-in-NotUtf8
returns-in-NotUtf8 c = (codes "not UTF-8", ap kind_text c.in-NotUtf8.is)

pub returns-in-BadToken : goal.returns-in-BadToken
returns-in-BadToken c = (codes "bad token", ap kind_text c.in-BadToken.is)

pub returns-in-UnexpectedToken : goal.returns-in-UnexpectedToken
returns-in-UnexpectedToken c = (codes "unexpected token", ap kind_text c.in-UnexpectedToken.is)

pub returns-in-UnknownName : goal.returns-in-UnknownName
returns-in-UnknownName c = (codes "unknown name", ap kind_text c.in-UnknownName.is)

pub returns-in-NameTwice : goal.returns-in-NameTwice
returns-in-NameTwice c = (codes "name defined twice", ap kind_text c.in-NameTwice.is)

pub returns-in-NoStart : goal.returns-in-NoStart
returns-in-NoStart c = (codes "no start rule", ap kind_text c.in-NoStart.is)

pub returns-in-BadLiteral : goal.returns-in-BadLiteral
returns-in-BadLiteral c = (codes "bad literal", ap kind_text c.in-BadLiteral.is)

pub returns-in-LimitPassed : goal.returns-in-LimitPassed
returns-in-LimitPassed c = (codes "limit passed", ap kind_text c.in-LimitPassed.is)

pub returns-in-NotAdmitted : goal.returns-in-NotAdmitted
returns-in-NotAdmitted c = (codes "operator not admitted (" ++ (fault_label c.in-NotAdmitted.field-0 ++ codes ")"), ap kind_text c.in-NotAdmitted.is)
