-- Made from views/records.txt by views/make.
pub mod SignatureRead
pub mod Signature
