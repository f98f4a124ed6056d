pub mod Sown
