-- What the parser's proofs share.
pub mod Steps
pub mod Rests
pub mod Loop
pub mod Parts
pub mod Digits
pub mod Classes
pub mod Spelled
pub mod Words
pub mod ValueLists
pub mod Values
pub mod Covered
pub mod ValuesFound
pub mod Items
pub mod ItemsFound
pub mod Texts
pub mod Files
