pub mod Crewed
