-- Made from views/records.txt by views/make.
pub mod RunStartRead
pub mod RunStart
