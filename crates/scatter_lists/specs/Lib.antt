-- what a reader must believe: what a call by lists answers
pub mod Lists
