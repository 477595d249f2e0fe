use Rattle.pg_derive.proofs.InText.{merged_in_text, relabelled_in_text}
use Rattle.pg_derive.proofs.laws.errors_stand_in_text.Goals as goal

pub returns : goal.returns
returns c = record { merges = merged_in_text; labels = relabelled_in_text }
