-- What a maker asks of class expressions and bodies is so of what proper trees stand for.
use Rattle.std.proofs.Common.{◌≡◌, false, List, length}
use Rattle.std.specs.List.{list_any}
use Rattle.pg_pred.specs.Offer.{Offer}
use Rattle.pg_grammar_form.specs.Names as names
use Rattle.pg_grammar_form.specs.Classes.{IsExpression, descends, is_long, lacks_item}
use Rattle.pg_grammar_form.specs.Forms.{has_bad_literal, has_long_text, has_unknown_class, IsBody}
use Rattle.pg_file_items.specs.declared.written.WrittenPart.{WrittenPart}
use Rattle.pg_file_items.specs.Tree.{Class, Value}
use Rattle.pg_file_items.specs.Written.{IsClass}
use Rattle.pg_file_items.specs.Proper.{IsProperClass, IsProper}
use Rattle.pg_file_meaning.specs.Meaning.{class_meant, meant}
use Rattle.pg_file_meaning.specs.Bodies.{parts_meant}
use Rattle.pg_file_meaning.proofs.MeaningLemmas.ProperClasses.{expression_of_parts, ascending, short, known}
use Rattle.pg_file_meaning.proofs.MeaningLemmas.Sound.{sound_value}
use Rattle.pg_file_meaning.proofs.MeaningLemmas.Faultless.{faultless_value}

-- ---- class expressions

pub parts_are_expression : (offer : Offer) (classes : List names.Name) (parts : List WrittenPart) → IsClass parts → IsExpression (parts_meant offer classes parts)
parts_are_expression offer classes parts h = expression_of_parts offer classes parts h

pub class_ascends : (offer : Offer) (classes : List names.Name) (c : Class) → IsProperClass c → list_any descends (class_meant offer classes c) ≡ false
class_ascends offer classes c h = ascending offer classes c h

pub class_is_short : (offer : Offer) (classes : List names.Name) (c : Class) → IsProperClass c → list_any is_long (class_meant offer classes c) ≡ false
class_is_short offer classes c h = short offer classes c h

-- a class item that is named is there: what no class item is called is a predicate
pub class_lacks_none : (offer : Offer) (classes : List names.Name) (c : Class) → list_any (lacks_item (length classes)) (class_meant offer classes c) ≡ false
class_lacks_none offer classes c = known offer classes c

-- ---- bodies

pub meant_is_body : (offer : Offer) (classes : List names.Name) (v : Value) → IsBody (meant offer classes v)
meant_is_body offer classes v = let h = sound_value offer classes v in record { whole = h.whole.whole; alternatives = h.alternatives.free }

pub meant_has_no_bad_literal : (offer : Offer) (classes : List names.Name) (v : Value) → IsProper v → list_any has_bad_literal (meant offer classes v) ≡ false
meant_has_no_bad_literal offer classes v h = (faultless_value offer classes v h).literals.free

pub meant_has_no_long_text : (offer : Offer) (classes : List names.Name) (v : Value) → IsProper v → list_any has_long_text (meant offer classes v) ≡ false
meant_has_no_long_text offer classes v h = (faultless_value offer classes v h).short.free

pub meant_has_no_unknown_class : (offer : Offer) (classes : List names.Name) (v : Value) → list_any (has_unknown_class (length classes)) (meant offer classes v) ≡ false
meant_has_no_unknown_class offer classes v = (sound_value offer classes v).known.free
