-- What correcting a page in blocks gives, as the contracts here cite it, and its laws.
pub mod Corrected
