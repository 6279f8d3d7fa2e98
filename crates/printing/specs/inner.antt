-- Inside: a text retimed and listed, into a buffer that is lent.
pub mod Lists
