-- Made from views/records.txt by views/make.
pub mod EventRead
pub mod Event
