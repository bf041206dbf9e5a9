-- Made from views/records.txt by views/make.
pub mod Ek500SounderRead
pub mod Ek500Sounder
