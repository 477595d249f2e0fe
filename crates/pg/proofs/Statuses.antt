-- The exit status that agrees with what is answered from bytes to bytes.
use Rattle.std.proofs.Common.{◌≡◌, ◌⊎◌, ℕ, List, Bool, true, false, Option, Some, [], append-nil, refl, Result, Ok, Err, codes, sym, subst, inl, inr}
use Rattle.std.specs.Prelude.{IfErr, OnOk}
use Rattle.std.specs.String.{string_bytes}
use Rattle.pg_tree.specs.Trees.{Tree}
use Rattle.pg_tree.specs.Meter.{Metered}
use Rattle.pg_pred.specs.Offer.{Offer}
use Rattle.pg_grammar_value.specs.Grammar.{Grammar}
use Rattle.pg_grammar_value.specs.declared.trail.TrailItem.{TrailItem}
use Rattle.pg_file_making.specs.Spells.{SpellsWithinLimits}
use Rattle.pg_language.specs.declared.reading.Reading.{Reading}
use Rattle.pg_predict.specs.Findings.{lines_of}
use Rattle.pg_predict.specs.Checked.{GrammarWithSets, IsChecked}
use Rattle.pg_bench_grammar.specs.Checking.{IsTold, is_accepted, is_refused}
use Rattle.pg_bench_grammar.specs.Checking as checking
use Rattle.pg_bench_places.specs.Placing.{IsJudgedBehind, IsPlaced, IsPlacedFile, accepted_behind, refused_behind}
use Rattle.pg_bench_explain.specs.Explaining.{IsExplained}
use Rattle.pg_bench_json.specs.Listing.{IsListed}
use Rattle.pg_bench_explain.specs.declared.explain.Explained.TheVariants as told
use Rattle.pg_bench_grammar.specs.Faults.{IsBeforeWriting, IsFileRefusal, IsGrammarRefusal, IsPageRefusal, IsWriteRefusal, IsVerifyRefusal, IfNotVerified, IfRefused, IfParseError}
use Rattle.pg_bench_grammar.specs.Files.{AreFindingsOf}
use Rattle.pg_bench_grammar.specs.Loading.{judged_grammar, IsLoadedFrom}
use Rattle.pg_bench_grammar.specs.declared.loaded.LoadedFile.{LoadedFile}
use Rattle.pg_bench.specs.declared.done.Done.{Done}
use Rattle.pg_bench.specs.Parsed.{IsParsedBy, IsLineBy, IsForestBy, HasForestBy, IsErrorBy, IsSpelledBy}
use Rattle.pg_bench.specs.Refusals.{IsTextFault, IsTextRefusal}
use Rattle.pg_bench_grammar.specs.Printing.{IsPrinted}
use Rattle.pg_bench.specs.Probing.{IsProbed, IsTextProbed, IsShownOfText}
use Rattle.pg_bench.specs.Showing.{IsShownOf}
use Rattle.pg_bench.specs.Replaying.{IsReplayed}
use Rattle.pg_bench_grammar.specs.Showing.{IsShownFile}
use Rattle.pg_bench_haskell.specs.Translating.{IsTranslatedFile}
use Rattle.pg_bench_grammar.specs.Verifying.{IsVerifiedFile, IsVerdictOf}
use Rattle.pg_bench_grammar.specs.declared.grammar_file.AcceptedGrammar.{AcceptedGrammar}
use Rattle.pg_bench_grammar.specs.declared.bench_fault.BenchFault.{BenchFault}
use Rattle.pg_bench_grammar.specs.declared.bench_fault.BenchFault.TheVariants.{File, Refused, Reader, NotUtf8, TooLong, NotATrail, NotVerified, ParseError, Writer, Memory}
use Rattle.pg_report.specs.Status.{status_of, status_of_verdict, IsLoaded, IsRefusedWith}
use Rattle.pg.specs.Status.{IsStatus, yes, no, unusable, out_of_memory, Judges, IsJudgedStatus, check_status, IsCheckStatus, IsParseStatus, IsTextStatus, IsProbeStatus, IsRunStatus, IsTracedStatus, IsReplayStatus, IsPrintStatus, IsVerifyStatus}

-- ---- a check

pub accepted_status : (offer : Offer) (file : List ℕ) (asked : Bool) (writer held : Option (List ℕ)) → checking.IsChecked offer file asked writer held true → IsCheckStatus offer file 0
accepted_status offer file asked writer held h = yes (asked, h.said, h.judged)

pub refused_status : (offer : Offer) (file : List ℕ) (asked : Bool) (writer held : Option (List ℕ)) → checking.IsChecked offer file asked writer held false → IsCheckStatus offer file 1
refused_status offer file asked writer held h = no (asked, h.said, h.judged)

pub check_fault_status : (offer : Offer) (file : List ℕ) (fault : BenchFault) (status : ℕ) → IsPageRefusal fault → status ≡ status_of fault
    → IsCheckStatus offer file status
check_fault_status offer file fault status h is = subst (IsCheckStatus offer file) (sym is) (own fault h)
  where
    own : (f : BenchFault) → IsPageRefusal f → IsCheckStatus offer file (status_of f)
    own (File f) h = unusable
    own Writer h = unusable
    own Memory h = out_of_memory
    own _ h = absurd h

pub file_fault_status : (offer : Offer) (file : List ℕ) (fault : BenchFault) (status : ℕ) → IsFileRefusal fault → status ≡ status_of fault
    → IsCheckStatus offer file status
file_fault_status offer file fault status h is = subst (IsCheckStatus offer file) (sym is) (own fault h)
  where
    own : (f : BenchFault) → IsFileRefusal f → IsCheckStatus offer file (status_of f)
    own (File f) h = unusable
    own Memory h = out_of_memory
    own _ h = absurd h

-- ---- an explanation

-- for a grammar that is judged
pub faultless_grammar : (g : Grammar) (writer held : Option (List ℕ)) → IsExplained g writer held told.Accepted → IsJudgedStatus g 0
faultless_grammar g writer held h = yes (false, codes "accepted\n", is_accepted h.tells.0)

pub faulty_grammar : (g : Grammar) (writer held : Option (List ℕ)) → IsExplained g writer held told.Refused → IsJudgedStatus g 1
faulty_grammar g writer held h =
    let tells = h.tells in
    no (false, lines_of tells.0, is_refused tells.1 tells.2)

pub unusable_grammar : (g : Grammar) (status : ℕ) → status ≡ 2 → IsJudgedStatus g status
unusable_grammar g status is = subst (IsJudgedStatus g) (sym is) unusable

pub write_fault_status : (g : Grammar) (fault : BenchFault) (status : ℕ) → IsWriteRefusal fault → status ≡ status_of fault → IsJudgedStatus g status
write_fault_status g fault status h is = subst (IsJudgedStatus g) (sym is) (own fault h)
  where
    own : (f : BenchFault) → IsWriteRefusal f → IsJudgedStatus g (status_of f)
    own Writer h = unusable
    own Memory h = out_of_memory
    own _ h = absurd h

-- with its step cost, or its findings
pub costed_status : (checked : GrammarWithSets) (status : ℕ) → IsChecked checked → (status ≡ 2) ⊎ (status ≡ 0) → IsJudgedStatus checked.grammar status
costed_status checked status h (inl is) = subst (IsJudgedStatus checked.grammar) (sym is) unusable
costed_status checked status h (inr is) = subst (IsJudgedStatus checked.grammar) (sym is) (yes (false, codes "accepted\n", is_accepted h.faultless))

pub told_check_status : (g : Grammar) (writer held : Option (List ℕ)) (accepted : Bool) (status : ℕ) → IsTold g false writer held accepted
    → status ≡ check_status accepted → IsJudgedStatus g status
told_check_status g writer held true status h is = subst (IsJudgedStatus g) (sym is) (yes (false, h.said, h.judged))
told_check_status g writer held false status h is = subst (IsJudgedStatus g) (sym is) (no (false, h.said, h.judged))

pub placed_status : (g : Grammar) (writer held : Option (List ℕ)) (accepted : Bool) (status : ℕ) → IsPlaced g false writer held accepted
    → status ≡ check_status accepted → IsJudgedStatus g status
placed_status g writer held accepted status h is = subst (IsJudgedStatus g) (sym is) (own h.judged)
  where
    own : {answer : Bool} {page : List ℕ} → IsJudgedBehind g false answer page → IsJudgedStatus g (check_status answer)
    own (accepted_behind {said = said} front judged) = yes (false, said, judged)
    own (refused_behind {refused = refused} front is fronted) = no (false, lines_of refused.findings, is_refused is.findings is.some)

-- for the file that it is loaded from
pub judged_status : (offer : Offer) (file : List ℕ) (loaded : LoadedFile) (status : ℕ) → IsLoadedFrom offer file loaded
    → IsJudgedStatus (judged_grammar loaded.judgement) status → IsCheckStatus offer file status
judged_status offer file loaded status is h = own status h
  where
    own : (n : ℕ) → IsJudgedStatus (judged_grammar loaded.judgement) n → IsCheckStatus offer file n
    own _ (yes h) = yes (h.0, h.1, record { grammar = judged_grammar loaded.judgement; spelled = is.spelled; judged = h.2 })
    own _ (no h) = no (h.0, h.1, record { grammar = judged_grammar loaded.judgement; spelled = is.spelled; judged = h.2 })
    own _ unusable = unusable
    own _ out_of_memory = out_of_memory

-- ---- findings as JSON

pub listed_none_status : (g : Grammar) (writer held : Option (List ℕ)) (status : ℕ) → IsListed g writer held true → (status ≡ 2) ⊎ (status ≡ 0) → IsJudgedStatus g status
listed_none_status g writer held status h (inl is) = subst (IsJudgedStatus g) (sym is) unusable
listed_none_status g writer held status h (inr is) = subst (IsJudgedStatus g) (sym is) (yes (false, codes "accepted\n", is_accepted h.lists.0))

pub listed_some_status : (g : Grammar) (writer held : Option (List ℕ)) → IsListed g writer held false → IsJudgedStatus g 1
listed_some_status g writer held h =
    let lists = h.lists in
    no (false, lines_of lists.0, is_refused lists.1 lists.2)

-- ---- findings after their places

pub placed_yes_status : (offer : Offer) (file : List ℕ) (asked : Bool) (writer held : Option (List ℕ)) → IsPlacedFile offer file asked writer held true → IsCheckStatus offer file 0
placed_yes_status offer file asked writer held h = yes (own h.placed.judged)
  where
    own : {page : List ℕ} → IsJudgedBehind h.grammar asked true page → Judges offer file true
    own (accepted_behind {said = said} front judged) = (asked, said, record { grammar = h.grammar; spelled = h.spelled; judged = judged })

pub placed_no_status : (offer : Offer) (file : List ℕ) (asked : Bool) (writer held : Option (List ℕ)) → IsPlacedFile offer file asked writer held false → IsCheckStatus offer file 1
placed_no_status offer file asked writer held h = no (own h.placed.judged)
  where
    own : {page : List ℕ} → IsJudgedBehind h.grammar asked false page → Judges offer file false
    own (refused_behind {refused = refused} front is fronted) =
        (false, lines_of refused.findings, record { grammar = h.grammar; spelled = h.spelled; judged = is_refused is.findings is.some })

-- ---- the verdict on a certificate

pub verdict_status : {T : Type 0} (offer : Offer) (file certificate : List ℕ) (verdict : Result T BenchFault) (status : ℕ)
    → OnOk verdict (IsVerifiedFile offer file certificate) → IfErr verdict IsVerifyRefusal → IfErr verdict (IfNotVerified (IsVerdictOf offer file certificate))
    → (status ≡ 2) ⊎ (status ≡ status_of_verdict verdict) → IsVerifyStatus offer file certificate status
verdict_status offer file certificate verdict status ok refusal refuted (inl failed) = subst (IsVerifyStatus offer file certificate) (sym failed) unusable
verdict_status offer file certificate verdict status ok refusal refuted (inr is) = subst (IsVerifyStatus offer file certificate) (sym is) (own verdict ok refusal refuted)
  where
    of : (f : BenchFault) → IsVerifyRefusal f → IfNotVerified (IsVerdictOf offer file certificate) f → IsVerifyStatus offer file certificate (status_of f)
    of (File f) h k = unusable
    of (NotVerified verdict) h k = no (string_bytes verdict, k)
    of Memory h k = out_of_memory
    of _ h k = absurd h

    own : {T : Type 0} (v : Result T BenchFault) → OnOk v (IsVerifiedFile offer file certificate) → IfErr v IsVerifyRefusal
        → IfErr v (IfNotVerified (IsVerdictOf offer file certificate)) → IsVerifyStatus offer file certificate (status_of_verdict v)
    own (Ok x) ok h k = yes ok
    own (Err f) ok h k = of f h k

-- ---- a parse by a loaded grammar

pub derived_status : (g : Grammar) (reader left : Option (List ℕ)) (done : Done) → HasForestBy g reader left done → IsTextStatus g reader 0
derived_status g reader left done h = yes (left, h.0, h.1, done, h.2)

pub parsed_status : (g : Grammar) (reader left : Option (List ℕ)) (with_trail : Bool) (writer held : Option (List ℕ)) (done : Done)
    → IsParsedBy g reader left with_trail writer held done → IsTextStatus g reader 0
parsed_status g reader left with_trail writer held done h = yes (left, h.forest, h.trail, done, h.parsed)

pub parse_fault_status : (g : Grammar) (reader left : Option (List ℕ)) (fault : BenchFault) (status : ℕ) → IfRefused (λ findings. ⊥) fault
    → IfParseError (IsErrorBy g reader left) fault → IfNotVerified (λ verdict. ⊥) fault → status ≡ status_of fault → IsTextStatus g reader status
parse_fault_status g reader left fault status findings error judged is = subst (IsTextStatus g reader) (sym is) (own fault findings error judged)
  where
    own : (f : BenchFault) → IfRefused (λ findings. ⊥) f → IfParseError (IsErrorBy g reader left) f → IfNotVerified (λ verdict. ⊥) f
        → IsTextStatus g reader (status_of f)
    own (Refused refused) h k v = absurd h
    own (ParseError e) h k v = no (left, e, k)
    own (NotVerified verdict) h k v = absurd v
    own Memory h k v = out_of_memory
    own (File f) h k v = unusable
    own Reader h k v = unusable
    own NotUtf8 h k v = unusable
    own TooLong h k v = unusable
    own NotATrail h k v = unusable
    own Writer h k v = unusable

-- as before, where a line of JSON is printed for the text
pub lined_status : (g : Grammar) (reader left : Option (List ℕ)) (name : List ℕ) (writer held : Option (List ℕ)) (done : Done)
    → IsLineBy g reader left name writer held done → IsTextStatus g reader 0
lined_status g reader left name writer held done h = yes (left, h.forest, h.trail, done, h.parsed)

pub line_fault_status : {R : Type 0} (g : Grammar) (before after : Metered R) (reader left : Option (List ℕ)) (fault : BenchFault) (status : ℕ)
    → (IsBeforeWriting fault → IsTextFault g before after reader left fault) → (status ≡ 2) ⊎ (status ≡ status_of fault) → IsTextStatus g reader status
line_fault_status g before after reader left fault status h (inl is) = subst (IsTextStatus g reader) (sym is) unusable
line_fault_status g before after reader left fault status h (inr is) = subst (IsTextStatus g reader) (sym is) (own fault h)
  where
    own : (f : BenchFault) → (IsBeforeWriting f → IsTextFault g before after reader left f) → IsTextStatus g reader (status_of f)
    own Writer h = unusable
    own Memory h = out_of_memory
    own (File f) h = unusable
    own Reader h = unusable
    own NotUtf8 h = unusable
    own TooLong h = unusable
    own NotATrail h = unusable
    own (Refused refused) h = absurd (h tt)
    own (ParseError e) h = no (left, e, (h tt).1)
    own (NotVerified verdict) h = absurd (h tt)

-- as before, where an outline is printed and not the forest itself
pub outlined_status : (g : Grammar) (reader left : Option (List ℕ)) (forest : List Tree) (trail : List TrailItem) (done : Done) (status : ℕ)
    → IsForestBy g reader left forest trail done → (status ≡ 0) ⊎ (status ≡ 2) → IsTextStatus g reader status
outlined_status g reader left forest trail done status h (inl is) = subst (IsTextStatus g reader) (sym is) (yes (left, forest, trail, done, h))
outlined_status g reader left forest trail done status h (inr is) = subst (IsTextStatus g reader) (sym is) unusable

pub text_fault_status : {R : Type 0} (g : Grammar) (before after : Metered R) (reader left : Option (List ℕ)) (fault : BenchFault) (status : ℕ)
    → IsTextFault g before after reader left fault → status ≡ status_of fault → IsTextStatus g reader status
text_fault_status g before after reader left fault status h is = subst (IsTextStatus g reader) (sym is) (own fault h)
  where
    own : (f : BenchFault) → IsTextFault g before after reader left f → IsTextStatus g reader (status_of f)
    own Reader h = unusable
    own NotUtf8 h = unusable
    own TooLong h = unusable
    own (ParseError e) h = no (left, e, h.1)
    own Memory h = out_of_memory
    own _ h = absurd h

-- ---- for the file that the grammar is loaded from

pub loaded_status : (offer : Offer) (file : List ℕ) (loaded : AcceptedGrammar) (reader : Option (List ℕ)) (status : ℕ) → IsLoaded offer file loaded
    → IsTextStatus loaded.checked.grammar reader status → IsParseStatus offer file reader status
loaded_status offer file loaded reader status is h = own status h
  where
    own : (n : ℕ) → IsTextStatus loaded.checked.grammar reader n → IsParseStatus offer file reader n
    own _ (yes h) =
        let read = h.4 in
        yes (
          h.0,
          h.1,
          h.2,
          h.3,
          record {
            grammar = loaded.checked.grammar;
            spelled = is.spelled;
            accepted = record { faultless = is.accepted.faultless };
            bytes = read.0;
            read = read.1;
            end = read.2;
            is = read.3;
          },
        )
    own _ (no h) =
        let read = h.2 in
        no (inr (
          h.0,
          h.1,
          record {
            grammar = loaded.checked.grammar;
            spelled = is.spelled;
            accepted = record { faultless = is.accepted.faultless };
            bytes = read.0;
            read = read.1;
            end = read.2;
            is = read.3;
          },
        ))
    own _ unusable = unusable
    own _ out_of_memory = out_of_memory

pub not_loaded_status : (offer : Offer) (file : List ℕ) (reader : Option (List ℕ)) (status : ℕ) → IsRefusedWith offer file status
    → IsParseStatus offer file reader status
not_loaded_status offer file reader status h = subst (IsParseStatus offer file reader) (sym h.status_is) (own h.fault h.grammar h.findings)
  where
    own : (f : BenchFault) → IsGrammarRefusal f → IfRefused (AreFindingsOf offer file) f → IsParseStatus offer file reader (status_of f)
    own (File f) h k = unusable
    own (Refused refused) h k = no (inl (refused.findings, k))
    own Memory h k = out_of_memory
    own _ h k = absurd h

-- ---- a probe

pub ok_status : (offer : Offer) (file : List ℕ) (reader left writer held : Option (List ℕ)) (name : List ℕ) (most : ℕ) (reading : Reading)
    → IsProbed offer file reader left name most reading writer held true → IsProbeStatus offer file reader name most reading 0
ok_status offer file reader left writer held name most reading h = yes (left, h.said, h.shown)

pub other_status : (offer : Offer) (file : List ℕ) (reader left writer held : Option (List ℕ)) (name : List ℕ) (most : ℕ) (reading : Reading)
    → IsProbed offer file reader left name most reading writer held false → IsProbeStatus offer file reader name most reading 1
other_status offer file reader left writer held name most reading h = no (left, h.said, h.shown)

-- by a grammar that is read already
module _ (g : Grammar) (reader : Option (List ℕ)) (name : List ℕ) (most : ℕ) (reading : Reading) where
  -- for the file that spells it
  pub run_status : (offer : Offer) (file : List ℕ) (status : ℕ) → SpellsWithinLimits offer file g → IsRunStatus g reader name most reading status
      → IsProbeStatus offer file reader name most reading status
  run_status offer file status spelled h = own status h
    where
      own : (n : ℕ) → IsRunStatus g reader name most reading n → IsProbeStatus offer file reader name most reading n
      own _ (yes h) =
          let read = h.2 in
          yes (h.0, h.1, record { grammar = g; spelled = spelled; bytes = read.0; read = read.1; end = read.2; shown = read.3 })
      own _ (no h) =
          let read = h.2 in
          no (h.0, h.1, record { grammar = g; spelled = spelled; bytes = read.0; read = read.1; end = read.2; shown = read.3 })
      own _ unusable = unusable
      own _ out_of_memory = out_of_memory

-- where the file spells no grammar
pub unread_status : (Yes No : Type 0) (fault : BenchFault) (status : ℕ) → IsFileRefusal fault → status ≡ status_of fault → IsStatus Yes No status
unread_status Yes No fault status h is = subst (IsStatus Yes No) (sym is) (own fault h)
  where
    own : (f : BenchFault) → IsFileRefusal f → IsStatus Yes No (status_of f)
    own (File f) h = unusable
    own Memory h = out_of_memory
    own _ h = absurd h

-- for a text that is read already
module _ (g : Grammar) (text name : List ℕ) (most : ℕ) (reading : Reading) where
  pub ok_traced_status : (writer held : Option (List ℕ)) → IsTextProbed g text name most reading writer held true → IsTracedStatus g text name most reading 0
  ok_traced_status writer held h = yes (h.said, h.shown)

  pub other_traced_status : (writer held : Option (List ℕ)) → IsTextProbed g text name most reading writer held false → IsTracedStatus g text name most reading 1
  other_traced_status writer held h = no (h.said, h.shown)

  -- where the trace couldn't be written
  pub told_status : (status told : ℕ) → IsTracedStatus g text name most reading status → (told ≡ status) ⊎ (told ≡ 2) → IsTracedStatus g text name most reading told
  told_status status told h (inl same) = subst (IsTracedStatus g text name most reading) (sym same) h
  told_status status told h (inr failed) = subst (IsTracedStatus g text name most reading) (sym failed) unusable

  pub traced_fault_status : (fault : BenchFault) (status : ℕ) → IsWriteRefusal fault → status ≡ status_of fault → IsTracedStatus g text name most reading status
  traced_fault_status fault status h is = subst (IsTracedStatus g text name most reading) (sym is) (own fault h)
    where
      own : (f : BenchFault) → IsWriteRefusal f → IsTracedStatus g text name most reading (status_of f)
      own Writer h = unusable
      own Memory h = out_of_memory
      own _ h = absurd h

pub text_unread_status : (g : Grammar) (bytes name : List ℕ) (most : ℕ) (reading : Reading) (fault : BenchFault) (status : ℕ) → IsTextRefusal bytes fault
    → status ≡ status_of fault → IsRunStatus g (Some bytes) name most reading status
text_unread_status g bytes name most reading fault status h is = subst (IsRunStatus g (Some bytes) name most reading) (sym is) (own fault h)
  where
    own : (f : BenchFault) → IsTextRefusal bytes f → IsRunStatus g (Some bytes) name most reading (status_of f)
    own NotUtf8 h = unusable
    own TooLong h = unusable
    own Memory h = out_of_memory
    own _ h = absurd h

-- for the bytes that spell the text
pub traced_status : (g : Grammar) (bytes text name : List ℕ) (most : ℕ) (reading : Reading) (status : ℕ) → IsSpelledBy bytes text
    → IsTracedStatus g text name most reading status → IsRunStatus g (Some bytes) name most reading status
traced_status g bytes text name most reading status spelled h = own status h
  where
    shown : (accepted : Bool) (said : List ℕ) → IsShownOfText g name most reading text accepted said → IsShownOf (IsShownOfText g name most reading) bytes accepted said
    shown accepted said is =
        record { utf8 = spelled.utf8; within = spelled.within; shows = subst (λ (t : List ℕ). IsShownOfText g name most reading t accepted said) spelled.same is }

    own : (n : ℕ) → IsTracedStatus g text name most reading n → IsRunStatus g (Some bytes) name most reading n
    own _ (yes h) = yes (Some [], h.0, (bytes, sym (append-nil bytes), refl, shown true h.0 h.1))
    own _ (no h) = no (Some [], h.0, (bytes, sym (append-nil bytes), refl, shown false h.0 h.1))
    own _ unusable = unusable
    own _ out_of_memory = out_of_memory

-- ---- a replay

pub led_status : (offer : Offer) (file : List ℕ) (reader left writer held : Option (List ℕ)) (name trail : List ℕ)
    → IsReplayed offer file reader left name trail writer held true → IsReplayStatus offer file reader name trail 0
led_status offer file reader left writer held name trail h = yes (left, h.said, h.shown)

pub stopped_status : (offer : Offer) (file : List ℕ) (reader left writer held : Option (List ℕ)) (name trail : List ℕ)
    → IsReplayed offer file reader left name trail writer held false → IsReplayStatus offer file reader name trail 1
stopped_status offer file reader left writer held name trail h = no (left, h.said, h.shown)

-- ---- showing a text

-- a fault that is neither a refused grammar, nor a parse error, nor a verdict on a certificate
pub shown_fault_status : (Yes No : Type 0) (fault : BenchFault) (status : ℕ)
    → IfRefused (λ findings. ⊥) fault → IfParseError (λ error. ⊥) fault → IfNotVerified (λ verdict. ⊥) fault → status ≡ status_of fault → IsStatus Yes No status
shown_fault_status Yes No fault status findings error judged is = subst (IsStatus Yes No) (sym is) (own fault findings error judged)
  where
    own : (f : BenchFault) → IfRefused (λ findings. ⊥) f → IfParseError (λ error. ⊥) f → IfNotVerified (λ verdict. ⊥) f → IsStatus Yes No (status_of f)
    own (Refused refused) h k v = absurd h
    own (ParseError e) h k v = absurd k
    own (NotVerified verdict) h k v = absurd v
    own Memory h k v = out_of_memory
    own (File f) h k v = unusable
    own Reader h k v = unusable
    own NotUtf8 h k v = unusable
    own TooLong h k v = unusable
    own NotATrail h k v = unusable
    own Writer h k v = unusable

-- something can't be used
pub unusable_status : (Yes No : Type 0) (status : ℕ) → status ≡ 2 → IsStatus Yes No status
unusable_status Yes No status is = subst (IsStatus Yes No) (sym is) unusable

-- ---- printing a grammar or its sets

pub printed_status : (offer : Offer) (file : List ℕ) (writer held : Option (List ℕ)) → IsPrinted offer file writer held → IsPrintStatus offer file 0
printed_status offer file writer held h = yes (h.grammar, h.spelled, tt)

pub shown_status : (offer : Offer) (file : List ℕ) (writer held : Option (List ℕ)) → IsShownFile offer file writer held → IsPrintStatus offer file 0
shown_status offer file writer held h = yes (h.grammar, h.spelled, tt)

pub translated_status : (offer : Offer) (file : List ℕ) (writer held : Option (List ℕ)) → IsTranslatedFile offer file writer held → IsPrintStatus offer file 0
translated_status offer file writer held h = yes (h.grammar, h.spelled, tt)

pub print_fault_status : (offer : Offer) (file : List ℕ) (fault : BenchFault) (status : ℕ) → IsPageRefusal fault → status ≡ status_of fault
    → IsPrintStatus offer file status
print_fault_status offer file fault status h is = subst (IsPrintStatus offer file) (sym is) (own fault h)
  where
    own : (f : BenchFault) → IsPageRefusal f → IsPrintStatus offer file (status_of f)
    own (File f) h = unusable
    own Writer h = unusable
    own Memory h = out_of_memory
    own _ h = absurd h
