pub mod LetTests
