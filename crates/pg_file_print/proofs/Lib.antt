pub mod PrinterLemmas
