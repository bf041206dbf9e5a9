-- Made from views/records.txt by views/make.
pub mod Ek500ChannelRead
pub mod Ek500Channel
