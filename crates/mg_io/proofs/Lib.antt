-- Known: lemmas for this crate and for those that read and write whole
mod Known
