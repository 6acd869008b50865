-- What the contracts of the code cite: text in a buffer or on a page, whether it has room or not; and tables of texts.
pub mod Writing
pub mod Tables
