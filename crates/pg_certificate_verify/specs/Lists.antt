-- The sets by claims, as lists.
use Rattle.pg_certificate_verify.specs.NodeSets.{NodeSets}
use Rattle.pg_certificate_verify.specs.SetsBy.{SetsBy, node_sets}
use Rattle.pg_certificate_verify.specs.declared.sets_by.ClaimedSets.{ClaimedSets}

abbrev pub lists_of : ClaimedSets → SetsBy
lists_of sets = record { starts = sets.starts.items; firsts = sets.firsts.items; follows = sets.follows.items; of_rules = sets.of_rules.items }

-- those of nodes
abbrev pub nodes_of : ClaimedSets → NodeSets
nodes_of sets = node_sets (lists_of sets)
