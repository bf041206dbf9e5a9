-- Made from views/records.txt by views/make.
pub mod ChannelRead
pub mod Channel
