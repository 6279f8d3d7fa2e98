-- Nobody outside has to believe anything of this crate: all is what functions promise each other.
pub mod inner
