-- Made from views/records.txt by views/make.
pub mod SounderRead
pub mod Sounder
