pub mod SetsPage
