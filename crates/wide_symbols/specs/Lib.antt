-- What a wide symbol stands for: its number, a list of symbols as the list of their numbers, its width, and the code of a wide profile.
pub use Rattle.any_symbols.specs.Numbers
pub mod Widths
pub mod Codes
pub mod Turns
