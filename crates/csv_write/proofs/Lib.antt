pub mod WriteFacts
