-- Laws of a manager in place, of its lists, and of its loading.
pub mod Laws
pub mod ListLaws
pub mod LoadLaws
