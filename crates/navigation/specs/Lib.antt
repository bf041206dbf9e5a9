-- Made from views/records.txt by views/make.
pub mod NavigationRead
pub mod Navigation
