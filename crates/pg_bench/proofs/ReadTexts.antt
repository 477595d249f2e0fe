-- A text that was read whole: what is said of it, and what was written of it, in terms of the bytes that the reader gave.
use Rattle.std.proofs.Common.{ℕ, Bool, List, Option}
use Rattle.std.specs.Io.KnownBytes.{Consumes, IsAtEnd}
use Rattle.pg_message.specs.declared.error.ParseError as message
use Rattle.pg_tree.specs.Meter.{Metered}
use Rattle.pg_tree.specs.Trees.{Tree}
use Rattle.pg_grammar_value.specs.Grammar.{Grammar}
use Rattle.pg_grammar_value.specs.declared.trail.TrailItem.{TrailItem}
use Rattle.pg_bench_grammar.specs.Faults.{IsBeforeWriting}
use Rattle.pg_bench_grammar.specs.declared.bench_fault.BenchFault.{BenchFault}
use Rattle.pg_bench_grammar.specs.declared.bench_fault.BenchFault.TheVariants.{Reader, NotUtf8, TooLong, ParseError, Writer, Memory}
use Rattle.pg_bench.specs.declared.done.Done.{Done}
use Rattle.pg_bench.specs.Promise.{IsForestOfText, IsErrorOfText}
use Rattle.pg_bench.specs.Parsed.{IsSpelledBy, IsTextOf, IsForestBy, IsErrorBy, HasForestBy, IsParsedBy, IsPartlyParsedBy, IsLineBy, IsPartlyLineBy}
use Rattle.pg_bench.specs.Pieces.{IsCostOfText, IsParsedText, IsPartlyParsedText, IsLineOfText, IsPartlyLineOfText}
use Rattle.pg_bench.specs.Refusals.{IsWell, IsReadRefusal, IsTextRefusal, IsRunRefusal, IsTextFault, IsUnspelled, IsWritingRefusal, IsWritingFault}
use Rattle.pg_bench.proofs.Parses.{bytes_forest, bytes_refused}

pub text_read : (reader left : Option (List ℕ)) (bytes text : List ℕ) → Consumes reader left bytes → IsAtEnd left → IsSpelledBy bytes text → IsTextOf reader left text
text_read reader left bytes text read end spelled = record { bytes = bytes; read = read; end = end; spelled = spelled }

pub read_unspelled : {R : Type 0} (before after : Metered R) (reader left : Option (List ℕ)) (fault : BenchFault) → IsReadRefusal before after fault
    → IsUnspelled before after reader left fault
read_unspelled before after reader left Reader h = h
read_unspelled before after reader left Memory h = tt
read_unspelled before after reader left _ h = absurd h

pub text_unspelled : {R : Type 0} (before after : Metered R) (reader left : Option (List ℕ)) (bytes : List ℕ) (fault : BenchFault)
    → Consumes reader left bytes → IsAtEnd left → IsWell before after → IsTextRefusal bytes fault → IsUnspelled before after reader left fault
text_unspelled before after reader left bytes NotUtf8 read end well h = (well, (bytes, read, end, h))
text_unspelled before after reader left bytes TooLong read end well h = (well, (bytes, read, end, h))
text_unspelled before after reader left bytes Memory read end well h = tt
text_unspelled before after reader left bytes _ read end well h = absurd h

pub unspelled_refused : {R : Type 0} (g : Grammar) (before after : Metered R) (reader left : Option (List ℕ)) (fault : BenchFault)
    → IsUnspelled before after reader left fault → IsTextFault g before after reader left fault
unspelled_refused g before after reader left Reader h = h
unspelled_refused g before after reader left NotUtf8 h = h
unspelled_refused g before after reader left TooLong h = h
unspelled_refused g before after reader left Memory h = tt
unspelled_refused g before after reader left _ h = absurd h

pub unspelled_unwritten : {R : Type 0} (g : Grammar) (before after : Metered R) (reader left : Option (List ℕ)) (fault : BenchFault)
    → IsUnspelled before after reader left fault → IsWritingFault g before after reader left fault
unspelled_unwritten g before after reader left Reader h = h
unspelled_unwritten g before after reader left NotUtf8 h = h
unspelled_unwritten g before after reader left TooLong h = h
unspelled_unwritten g before after reader left Memory h = tt
unspelled_unwritten g before after reader left _ h = absurd h

pub run_unwritten : (g : Grammar) (text : List ℕ) (fault : BenchFault) → IsRunRefusal g text fault → IsWritingRefusal g text fault
run_unwritten g text (ParseError error) h = h
run_unwritten g text Memory h = tt
run_unwritten g text _ h = absurd h

-- the forest and the error of the text are those of the reader's bytes
forest_read : (g : Grammar) (reader left : Option (List ℕ)) (text : List ℕ) (forest : List Tree) (trail : List TrailItem) (done : Done) → IsTextOf reader left text
    → IsForestOfText g text forest trail done → IsForestBy g reader left forest trail done
forest_read g reader left text forest trail done of h = (of.bytes, of.read, of.end, bytes_forest g of.bytes text forest trail done of.spelled h)

error_read : (g : Grammar) (reader left : Option (List ℕ)) (text : List ℕ) (error : message.ParseError) → IsTextOf reader left text → IsErrorOfText g text error
    → IsErrorBy g reader left error
error_read g reader left text error of h = (of.bytes, of.read, of.end, bytes_refused g of.bytes text (ParseError error) of.spelled h)

pub run_refused : {R : Type 0} (g : Grammar) (before after : Metered R) (reader left : Option (List ℕ)) (text : List ℕ) (fault : BenchFault)
    → IsTextOf reader left text → IsWell before after → IsRunRefusal g text fault → IsTextFault g before after reader left fault
run_refused g before after reader left text (ParseError error) of well h = (well, error_read g reader left text error of h)
run_refused g before after reader left text Memory of well h = tt
run_refused g before after reader left text _ of well h = absurd h

pub writing_refused : {R : Type 0} (g : Grammar) (before after : Metered R) (reader left : Option (List ℕ)) (text : List ℕ) (fault : BenchFault)
    → IsTextOf reader left text → IsWell before after → IsWritingRefusal g text fault → IsWritingFault g before after reader left fault
writing_refused g before after reader left text (ParseError error) of well h = (well, error_read g reader left text error of h)
writing_refused g before after reader left text Writer of well h = well
writing_refused g before after reader left text Memory of well h = tt
writing_refused g before after reader left text _ of well h = absurd h

-- up to the writer's, the faults are those of the text
pub line_refused : {R : Type 0} (g : Grammar) (before after : Metered R) (reader left : Option (List ℕ)) (text : List ℕ) (fault : BenchFault)
    → IsTextOf reader left text → IsWell before after → IsWritingRefusal g text fault → IsBeforeWriting fault → IsTextFault g before after reader left fault
line_refused g before after reader left text (ParseError error) of well h early = (well, error_read g reader left text error of h)
line_refused g before after reader left text Writer of well h early = absurd early
line_refused g before after reader left text Memory of well h early = tt
line_refused g before after reader left text _ of well h early = absurd h

pub cost_read : (g : Grammar) (reader left : Option (List ℕ)) (text : List ℕ) (done : Done) → IsTextOf reader left text → IsCostOfText g text done
    → HasForestBy g reader left done
cost_read g reader left text done of h = (h.forest, h.trail, forest_read g reader left text h.forest h.trail done of h.is)

pub parsed_read : (g : Grammar) (reader left : Option (List ℕ)) (text : List ℕ) (with_trail : Bool) (writer held : Option (List ℕ)) (done : Done) → IsTextOf reader left text
    → IsParsedText g text with_trail writer held done → IsParsedBy g reader left with_trail writer held done
parsed_read g reader left text with_trail writer held done of h = record {
  forest = h.forest;
  trail = h.trail;
  parsed = forest_read g reader left text h.forest h.trail done of h.parsed;
  written = h.written;
  read = h.read;
}

pub partly_read : (g : Grammar) (reader left : Option (List ℕ)) (text : List ℕ) (with_trail : Bool) (writer held : Option (List ℕ)) → IsTextOf reader left text
    → IsPartlyParsedText g text with_trail writer held → IsPartlyParsedBy g reader left with_trail writer held
partly_read g reader left text with_trail writer held of h = record {
  forest = h.forest;
  trail = h.trail;
  done = h.done;
  parsed = forest_read g reader left text h.forest h.trail h.done of h.parsed;
  written = h.written;
}

pub line_read : (g : Grammar) (reader left : Option (List ℕ)) (text name : List ℕ) (writer held : Option (List ℕ)) (done : Done) → IsTextOf reader left text
    → IsLineOfText g text name writer held done → IsLineBy g reader left name writer held done
line_read g reader left text name writer held done of h = record {
  forest = h.forest;
  trail = h.trail;
  parsed = forest_read g reader left text h.forest h.trail done of h.parsed;
  written = h.written;
}

pub partly_line_read : (g : Grammar) (reader left : Option (List ℕ)) (text name : List ℕ) (writer held : Option (List ℕ)) → IsTextOf reader left text
    → IsPartlyLineOfText g text name writer held → IsPartlyLineBy g reader left name writer held
partly_line_read g reader left text name writer held of h = record {
  forest = h.forest;
  trail = h.trail;
  done = h.done;
  parsed = forest_read g reader left text h.forest h.trail h.done of h.parsed;
  written = h.written;
}
