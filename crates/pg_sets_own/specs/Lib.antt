pub mod OwnStarts
pub mod Listed
pub mod Words
pub mod Own
pub mod PrintedStarts
pub mod OperatorStarts
