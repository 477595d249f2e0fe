-- What is told of an accepted grammar.
use Rattle.std.specs.Prelude.{◌≡◌, List}
use Rattle.std.specs.List.{All}
use Rattle.pg_server_diagnostics.specs.declared.diagnostic.Diagnostic.{Diagnostic}
use Rattle.pg_server_diagnostics.specs.declared.diagnostic.Severity.TheVariants.{Hint}

-- no error and no warning, but a hint
abbrev pub IsHint : Diagnostic → Type 0
IsHint diagnostic = diagnostic.severity ≡ Hint

-- hints, and nothing else
abbrev pub AreHints : List Diagnostic → Type 0
AreHints found = All IsHint found
