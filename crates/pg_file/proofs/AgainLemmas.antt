-- What is so of a grammar that is printed: it may be written, and is read again as itself.
pub mod PrintedNames
pub mod Printable
pub mod Spelled
pub mod ClassesAgain
pub mod BodiesAgain
pub mod ItemsAgain
pub mod Low
pub mod Scalars
pub mod Found
pub mod WritableClasses
pub mod WritableBodies
pub mod WritableValues
pub mod WritableItems
pub mod Named
pub mod Proper
pub mod Ordered
pub mod Again
