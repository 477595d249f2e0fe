-- The pieces of a text, from what was parsed, and what was written of them.
use Rattle.std.proofs.Common.{◌≡◌, ◌++◌, ℕ, List, Bool, true, false, Option, Result, sym, subst}
use Rattle.std.specs.Prelude.{codes, OnErr}
use Rattle.std.proofs.lemmas.Result.{on_err_weaker}
use Rattle.pg_text_pieces.proofs.Puts.{prefix_after}
use Rattle.std.specs.Io.KnownBytes.{Appends}
use Rattle.pg_tree.specs.Bytes.{AppendsPrefix}
use Rattle.pg_tree.specs.Json.{json}
use Rattle.pg_tree.specs.Trees.{Tree}
use Rattle.pg_grammar_value.specs.Grammar.{Grammar}
use Rattle.pg_grammar_value.specs.declared.trail.TrailItem.{TrailItem}
use Rattle.pg_bench.specs.Parsed.{AreJsonPieces, json_if, line_front, IfRead, after_forest}
use Rattle.pg_bench.specs.Pieces.{IsCostOfText, IsParsedText, IsPartlyParsedText, IsLineOfText, IsPartlyLineOfText}
use Rattle.pg_bench.specs.Promise.{IsForestOfText, HasForestOfText}
use Rattle.pg_bench.specs.declared.done.Done.{Done}

-- of a forest whose trail isn't wanted
pub quick_pieces : (g : Grammar) (text : List ℕ) (with_json : Bool) (forest : List Tree) (page rest : List ℕ) (d done : Done) → HasForestOfText g text forest d →
    page ≡ json_if with_json forest → rest ≡ codes "\n" → done ≡ d → AreJsonPieces (IsForestOfText g text) with_json false page rest done
quick_pieces g text with_json forest page rest d done has one after same = record {
  forest = forest;
  pieces = record { trail = has.trail; is = subst (IsForestOfText g text forest has.trail) (sym same) has.is; rest_is = after; read = tt };
  page_is = one;
}

-- of a parse by the machine
pub run_pieces : (g : Grammar) (text : List ℕ) (with_json with_trail : Bool) (forest : List Tree) (trail : List TrailItem) (page rest : List ℕ) (d done : Done) →
    IsForestOfText g text forest trail d → page ≡ json_if with_json forest → done ≡ d → rest ≡ after_forest with_trail trail → IfRead with_trail trail →
    AreJsonPieces (IsForestOfText g text) with_json with_trail page rest done
run_pieces g text with_json with_trail forest trail page rest d done is one same after read = record {
  forest = forest;
  pieces = record { trail = trail; is = subst (IsForestOfText g text forest trail) (sym same) is; rest_is = after; read = read };
  page_is = one;
}

-- so the text is derived
pub cost_of_pieces : (g : Grammar) (text : List ℕ) (with_json with_trail : Bool) (page rest : List ℕ) (done : Done) →
    AreJsonPieces (IsForestOfText g text) with_json with_trail page rest done → IsCostOfText g text done
cost_of_pieces g text with_json with_trail page rest done p = record { forest = p.forest; trail = p.pieces.trail; is = p.pieces.is }

-- they were written
pub parsed_pieces : (g : Grammar) (text : List ℕ) (with_trail : Bool) (writer held : Option (List ℕ)) (page rest : List ℕ) (done : Done) →
    AreJsonPieces (IsForestOfText g text) true with_trail page rest done → Appends writer held (page ++ rest) → IsParsedText g text with_trail writer held done
parsed_pieces g text with_trail writer held page rest done p written = record {
  forest = p.forest;
  trail = p.pieces.trail;
  parsed = p.pieces.is;
  written = subst (λ (x : List ℕ). Appends writer held (json p.forest ++ x)) p.pieces.rest_is (subst (λ (x : List ℕ). Appends writer held (x ++ rest)) p.page_is written);
  read = p.pieces.read;
}

-- a prefix of them was written
pub partly_pieces : (g : Grammar) (text : List ℕ) (with_trail : Bool) (writer held : Option (List ℕ)) (page rest : List ℕ) (done : Done) →
    AreJsonPieces (IsForestOfText g text) true with_trail page rest done → AppendsPrefix writer held (page ++ rest) → IsPartlyParsedText g text with_trail writer held
partly_pieces g text with_trail writer held page rest done p written = record {
  forest = p.forest;
  trail = p.pieces.trail;
  done = done;
  parsed = p.pieces.is;
  written = subst (λ (x : List ℕ). AppendsPrefix writer held (json p.forest ++ x)) p.pieces.rest_is
      (subst (λ (x : List ℕ). AppendsPrefix writer held (x ++ rest)) p.page_is written);
}

-- their line was written
pub line_pieces : (g : Grammar) (text name : List ℕ) (writer held : Option (List ℕ)) (page rest : List ℕ) (done : Done) →
    AreJsonPieces (IsForestOfText g text) true false page rest done → Appends writer held (line_front name ++ (page ++ codes "}\n")) → IsLineOfText g text name writer held done
line_pieces g text name writer held page rest done p written = record {
  forest = p.forest;
  trail = p.pieces.trail;
  parsed = p.pieces.is;
  written = subst (λ (x : List ℕ). Appends writer held (line_front name ++ (x ++ codes "}\n"))) p.page_is written;
}

-- a prefix of their line was written
pub partly_line_pieces : (g : Grammar) (text name : List ℕ) (writer held : Option (List ℕ)) (page rest : List ℕ) (done : Done) →
    AreJsonPieces (IsForestOfText g text) true false page rest done → AppendsPrefix writer held (line_front name ++ (page ++ codes "}\n")) →
    IsPartlyLineOfText g text name writer held
partly_line_pieces g text name writer held page rest done p written = record {
  forest = p.forest;
  trail = p.pieces.trail;
  done = done;
  parsed = p.pieces.is;
  written = subst (λ (x : List ℕ). AppendsPrefix writer held (line_front name ++ (x ++ codes "}\n"))) p.page_is written;
}

-- all of some bytes were written, and then a prefix of others if that failed
pub prefix_of_both : {T E : Type 0} (r : Result T E) (old middle new : Option (List ℕ)) (bytes more : List ℕ) → Appends old middle bytes →
    OnErr r (AppendsPrefix middle new more) → OnErr r (AppendsPrefix old new (bytes ++ more))
prefix_of_both r old middle new bytes more h k = on_err_weaker r (λ written. prefix_after old middle new bytes more h written) k
