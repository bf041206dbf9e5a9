-- Made from views/records.txt by views/make.
pub mod RunEndRead
pub mod RunEnd
