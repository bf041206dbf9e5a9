-- Made from views/records.txt by views/make.
pub mod FileEndRead
pub mod FileEnd
