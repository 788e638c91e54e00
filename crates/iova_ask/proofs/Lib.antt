mod Answering
mod Copying
mod Lined
mod SentParts
