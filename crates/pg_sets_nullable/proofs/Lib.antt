pub mod Naming
pub mod NullableMarks
pub mod Heading
pub mod RankLaws
pub mod RankRounds
