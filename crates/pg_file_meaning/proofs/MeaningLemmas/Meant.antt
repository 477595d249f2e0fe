-- The forms of a tree in preorder stand for what the tree stands for, and are as large.
use Rattle.std.proofs.Common.{◌≡◌, List, ◌∷◌, ◌++◌, length}
use Rattle.pg_pred.specs.Offer.{Offer}
use Rattle.pg_grammar_form.specs.Names as names
use Rattle.pg_file_items.specs.Tree.{Class, Value}
use Rattle.pg_file_items.specs.Heads.{class_parts, heads}
use Rattle.pg_file_meaning.specs.Meaning.{class_meant, meant}
use Rattle.pg_file_meaning.specs.Bodies.{parts_meant, body_meant}
use Rattle.pg_file_items.specs.Sizes.{body_size}
use Rattle.pg_file_meaning.proofs.MeaningLemmas.Classes.{class_is}
use Rattle.pg_file_meaning.proofs.MeaningLemmas.Bodies.{value_alone}
use Rattle.pg_file_meaning.proofs.MeaningLemmas.Sizes.{value_size}

pub class_parts_meant : (offer : Offer) (classes : List names.Name) (c : Class) → parts_meant offer classes (class_parts c) ≡ class_meant offer classes c
class_parts_meant offer classes c = class_is offer classes c

pub heads_meant : (offer : Offer) (classes : List names.Name) (v : Value) → body_meant offer classes (heads v) ≡ meant offer classes v
heads_meant offer classes v = value_alone offer classes v

pub heads_sized : (offer : Offer) (classes : List names.Name) (v : Value) → body_size (heads v) ≡ length (meant offer classes v)
heads_sized offer classes v = value_size offer classes v
