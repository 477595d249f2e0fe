pub mod ParserLemmas
