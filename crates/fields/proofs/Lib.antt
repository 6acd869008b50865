-- Laws of fields, bytes laid out for samples, and rules about small numbers by computing them.
pub mod Laws
pub mod Rows
pub mod Tables
